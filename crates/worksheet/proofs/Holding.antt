-- Whatever was called, a sheet kept to its set-up has lines kept to it, as many as were judged, and its unused lines as lent.
use Rattle.std.proofs.Common.{◌≡◌, ℕ, zero, suc, ◌+◌, ◌<◌, ◌≤◌, List, [], ◌∷◌, length, drop, Ok, Err, sym, refl, ap, ◌∙◌, subst, add-zero, add_assoc, arith, Some, None}
use mathlib.Core.Path.{subst⁻¹}
use Rattle.std.proofs.lemmas.List.{length-set, take_more_set, drop-drop, drop-set-lt}
use Rattle.faults.specs.declared.worksheet.WorksheetFault.{WorksheetFault}
use Rattle.faults.specs.declared.worksheet.WorksheetFault.TheVariants.{Code, OtherSetUp, Unfinished, NoLineLeft, LineNumber, Exponent, Length, Subject}
use Rattle.monomials.specs.Monomials.{mono}
use Rattle.monomials.specs.declared.monomial.Monomial.{Monomial}
use Rattle.rows.specs.declared.line.Line.{Line}
use Rattle.rows.specs.declared.verdict.Verdict.{Verdict}
use Rattle.rows.specs.Ideals.{SetUp, Lawful}
use Rattle.rows.specs.Lines.{monomial_of}
use Rattle.rows.specs.Sheets.{Next, Kept}
use Rattle.rows.proofs.Existence.{none_kept, more_kept}
use Rattle.worksheet.specs.Sheets.{Sheet, judged}
use Rattle.worksheet.specs.Steps.{opened, Judges, JudgesMany, Steps, Runs}
use Rattle.worksheet.specs.Pasts.{Call, step, run, read, remainder, refill, score, Happens, Past, judged_by, judged_in, Had, KeptTo}

-- n lines were judged under the set-up, and the others are as lent
pub record Holds (U : SetUp) (lent : List Line) (n : ℕ) (s : Sheet) : Type 0 where
  pub variables : s.variables ≡ U.subject.variables
  pub width : s.width ≡ U.subject.width
  pub order : s.order ≡ U.field.order
  pub count : s.used ≡ n
  pub within : s.used ≤ length s.lines
  pub kept : Kept U (judged s)
  pub unused : drop s.used s.lines ≡ drop s.used lent
  pub as_long : length s.lines ≡ length lent

-- a refused step leaves the sheet
step_refused : (U : SetUp) (s after : Sheet) (fault : WorksheetFault) → Steps U s (Err fault) after → after ≡ s
step_refused U s after OtherSetUp h = h.1
step_refused U s after NoLineLeft h = h.3
step_refused U s after (Code place) h = absurd h
step_refused U s after Unfinished h = absurd h
step_refused U s after LineNumber h = absurd h
step_refused U s after (Exponent place) h = absurd h
step_refused U s after Length h = absurd h
step_refused U s after (Subject fault) h = absurd h

-- a refused run leaves the sheet
run_refused : (U : SetUp) (s after : Sheet) (fault : WorksheetFault) → Runs U s (Err fault) after → after ≡ s
run_refused U s after OtherSetUp h = h.1
run_refused U s after NoLineLeft h = absurd h
run_refused U s after (Code place) h = absurd h
run_refused U s after Unfinished h = absurd h
run_refused U s after LineNumber h = absurd h
run_refused U s after (Exponent place) h = absurd h
run_refused U s after Length h = absurd h
run_refused U s after (Subject fault) h = absurd h

module _ (U : SetUp) (K : Lawful U) (lent : List Line) where
  -- opening
  pub opened_holds : Holds U lent 0 (opened U.subject U.field lent)
  opened_holds = record {
    variables = refl;
    width = refl;
    order = refl;
    count = refl;
    within = omega arith;
    kept = none_kept U K;
    unused = refl;
    as_long = refl;
  }

  -- a monomial more
  judged_holds : (n : ℕ) (s : Sheet) (a : Monomial) (v : Verdict) (after : Sheet) → Holds U lent n s → Judges U s a v after → Holds U lent (n + 1) after
  judged_holds n s a v after H J =
      let W = J.written.writes in
      let l : Line = J.written.line in
      let next : Next s.variables U.order (judged s) (monomial_of l) =
      subst⁻¹ (λ (b : Monomial). Next s.variables U.order (judged s) (mono b.exponents)) J.written.of_monomial J.next in
      subst⁻¹ (Holds U lent (n + 1)) W.put (record {
        variables = H.variables;
        width = H.width;
        order = H.order;
        count = ap (λ k. k + 1) H.count;
        within = omega (arith, length-set s.lines s.used l, W.unused);
        kept = subst⁻¹ (Kept U) (take_more_set s.lines s.used l W.unused)
            (more_kept U K (judged s) H.kept l (subst (λ m. Next m U.order (judged s) (monomial_of l)) H.variables next) (W.stands H.kept.stands));
        unused = drop-set-lt (s.used + 1) s.lines s.used l (omega arith) ∙ sym (drop-drop 1 s.used s.lines) ∙
            ap (drop 1) H.unused ∙ drop-drop 1 s.used lent;
        as_long = length-set s.lines s.used l ∙ H.as_long;
      })

  -- monomials more
  pub many_hold : (k n : ℕ) (s after : Sheet) → Holds U lent n s → JudgesMany U k s after → Holds U lent (n + k) after
  many_hold zero n s after H e = subst⁻¹ (Holds U lent (n + 0)) e (subst⁻¹ (λ i. Holds U lent i s) (add-zero n) H)
  many_hold (suc k) n s after H (between, before, (a, v, J)) =
      let e : n + k + 1 ≡ n + suc k = omega arith in
      subst (λ i. Holds U lent i after) e (judged_holds (n + k) between a v after (many_hold k n s between H before) J)

  -- what leaves the sheet leaves what holds of it
  same_holds : (n : ℕ) (s after : Sheet) → Holds U lent n s → after ≡ s → Holds U lent (n + 0) after
  same_holds n s after H e = subst⁻¹ (Holds U lent (n + 0)) e (subst⁻¹ (λ i. Holds U lent i s) (add-zero n) H)

  -- a call
  call_holds : (c : Call) (n : ℕ) (s after : Sheet) → Holds U lent n s → Happens c s after → (0 < judged_by c → Had U c) → Holds U lent (n + judged_by c) after
  call_holds (step V (Ok (Some (a, v)))) n s after H h had =
      judged_holds n s a v after H (subst (λ W. Judges W s a v after) (had (omega arith)) h.1)
  call_holds (step V (Ok None)) n s after H h had = same_holds n s after H h.2
  call_holds (step V (Err fault)) n s after H h had = same_holds n s after H (step_refused V s after fault h)
  call_holds (run V (Ok ran)) n s after H h had = go ran.judged had h.1
    where
      go : (k : ℕ) → (0 < k → V ≡ U) → JudgesMany V k s after → Holds U lent (n + k) after
      go zero had p = many_hold zero n s after H p
      go (suc k) had p = many_hold (suc k) n s after H (subst (λ W. JudgesMany W (suc k) s after) (had (omega arith)) p)
  call_holds (run V (Err fault)) n s after H h had = same_holds n s after H (run_refused V s after fault h)
  call_holds (read number place answer place_after) n s after H h had = same_holds n s after H h.1
  call_holds (remainder S A terms codes answer codes_after) n s after H h had = same_holds n s after H h.1
  call_holds (refill A codes a answer) n s after H h had = same_holds n s after H h.1
  call_holds (score periods answer) n s after H h had = same_holds n s after H h.1

  -- a past
  pub past_holds : (past : List Call) (n : ℕ) (s after : Sheet) → Holds U lent n s → Past past s after → KeptTo U past → Holds U lent (n + judged_in past) after
  past_holds [] n s after H e kept = same_holds n s after H e
  past_holds (c ∷ cs) n s after H (between, h, rest) kept =
      subst (λ i. Holds U lent i after) (add_assoc n (judged_by c) (judged_in cs))
      (past_holds cs (n + judged_by c) between after (call_holds c n s between H h kept.0) rest kept.1)
