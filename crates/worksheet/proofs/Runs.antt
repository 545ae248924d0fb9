-- A run, monomial by monomial.
use Rattle.std.proofs.Common.{◌≡◌, ℕ, suc, ◌+◌, ◌-◌, ◌≤◌, ap, arith}
use mathlib.Core.Path.{subst⁻¹}
use Rattle.monomials.specs.declared.monomial.Monomial.{Monomial}
use Rattle.rows.specs.declared.verdict.Verdict.{Verdict}
use Rattle.rows.specs.Ideals.{SetUp}
use Rattle.worksheet.specs.Sheets.{Sheet, Fits}
use Rattle.worksheet.specs.Steps.{Judges, JudgesMany}

-- as many monomials are judged as lines are used since the start, and the numbers fit
abbrev pub SoFar : SetUp → ℕ → Sheet → Sheet → Type 0
SoFar U start s now = (start ≤ now.used) × JudgesMany U (now.used - start) s now × Fits U.subject U.field now

module _ (U : SetUp) (start : ℕ) (s between after : Sheet) (H : SoFar U start s between) where
  -- a monomial more
  pub judged_more : {a : Monomial} {v : Verdict} → Judges U between a v after → SoFar U start s after
  judged_more {a} {v} J =
      let W = J.written.writes in
      let used : after.used ≡ between.used + 1 = ap (λ (t : Sheet). t.used) W.put in
      let more : after.used - start ≡ suc (between.used - start) = omega (arith, used, H.0) in (
        omega (arith, used, H.0),
        subst⁻¹ (λ k. JudgesMany U k s after) more (between, H.1, (a, v, J)),
        subst⁻¹ (Fits U.subject U.field) W.put
            (record { subject = record { variables = H.2.subject.variables; width = H.2.subject.width }; field = H.2.field }),
      )

  -- nothing more
  pub judged_same : after ≡ between → JudgesMany U (after.used - start) s after
  judged_same e = subst⁻¹ (λ (t : Sheet). JudgesMany U (t.used - start) s t) e H.1
