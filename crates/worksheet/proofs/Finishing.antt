-- What holds of a finished sheet that is kept to its set-up: of any, of a periodic array's, and of a point set's.
use Rattle.std.proofs.Common.{◌≡◌, ℕ, ◌<◌, List, Ok, Err, sym, refl, ap, ◌∙◌, subst, mod-lt, arith}
use mathlib.Core.Path.{subst⁻¹}
use Rattle.faults.specs.declared.worksheet.WorksheetFault.TheVariants.{Code, OtherSetUp, Unfinished, NoLineLeft, LineNumber, Exponent, Length, Subject}
use Rattle.fields.specs.Arithmetic.{Arithmetic}
use Rattle.polynomials.specs.Subjects.{Annihilates}
use Rattle.polynomials.specs.Arrays.{array_meaning, cells_of}
use Rattle.polynomials.specs.Points.{points_meaning}
use Rattle.polynomials.specs.Terms.{Admitted}
use Rattle.polynomials.proofs.Arrays.{annihilators_valid}
use Rattle.polynomials.proofs.Points.{annihilators_vanish}
use Rattle.rows.specs.declared.line.Line.{Line}
use Rattle.rows.specs.Ideals.{SetUp, array_set_up, Lawful, InIdeal}
use Rattle.rows.specs.Sheets.{Finished}
use Rattle.rows.specs.Rows.{Row}
use Rattle.rows.specs.Continuation.{InfiniteArray, Continues, OneContinuation}
use Rattle.rows.proofs.Keeping.{kept_row}
use Rattle.rows.proofs.Cells.{one_continuation, own_cells}
use Rattle.worksheet.specs.Sheets.{Sheet, judged, Done, set_up}
use Rattle.worksheet.specs.LongRun.{CodesOnStairs, RefilledAs, less_remainder, RemaindersDifferBy, FinishedHolds, ArrayHolds, PointsHold}
use Rattle.worksheet.proofs.Holding.{Holds}

module _ (U : SetUp) (K : Lawful U) (lent : List Line) (n : ℕ) (s : Sheet) (H : Holds U lent n s) (done : Done s) where
  -- the sheet lists the row
  pub lists : Row U (judged s)
  lists = kept_row U K (judged s) H.kept (subst (λ m. Finished m (judged s)) H.variables done)

  -- the codes have one continuation
  pub continued : (codes : List ℕ) → CodesOnStairs U.field s codes → OneContinuation U (judged s) codes
  continued codes C = one_continuation U K (judged s) lists codes (λ j l. C.below j (subst⁻¹ (λ k. j < k) C.one_each l))

  -- a refill is not refused, and answers the continuation
  pub refilled : (codes : List ℕ) → CodesOnStairs U.field s codes → (f : InfiniteArray) → Continues U (judged s) codes f →
      RefilledAs U.field U.subject.variables s codes f
  refilled codes C f c a admitted (Ok code) h = ap Ok (h.2 U K refl (sym H.variables) H.kept f c)
  refilled codes C f c a admitted (Err (Code i)) h = absurd (omega (arith, h.0.1, C.below i h.0.0))
  refilled codes C f c a admitted (Err OtherSetUp) h = absurd (h.1 (sym H.order))
  refilled codes C f c a admitted (Err Unfinished) h = absurd (h.2 done)
  refilled codes C f c a admitted (Err (Exponent i)) h = absurd (h.3 (subst⁻¹ (λ m. Admitted m a) H.variables admitted))
  refilled codes C f c a admitted (Err Length) h = absurd (h.4 C.one_each)
  refilled codes C f c a admitted (Err NoLineLeft) h = absurd h
  refilled codes C f c a admitted (Err LineNumber) h = absurd h
  refilled codes C f c a admitted (Err (Subject fault)) h = absurd h

  -- a remainder differs by a member of the ideal
  remainder_differs : RemaindersDifferBy (InIdeal U) U s
  remainder_differs terms codes answer after h = (h.2 U.order K H.kept).differs

  -- of any sheet
  pub finished_holds : FinishedHolds U s
  finished_holds = record {
    lists = lists;
    continuation = λ codes C. let one = continued codes C in record { one = one; refill = refilled codes C one.array one.continues };
    remainder = remainder_differs;
  }

  -- of a periodic array's
  pub array_holds : (periods cells : List ℕ) → 0 < cells_of periods → U.subject ≡ array_meaning periods cells → ArrayHolds U periods cells s
  array_holds periods cells some e =
      let A : Arithmetic = U.field in
      let V : SetUp = array_set_up periods cells A U.order in
      let same : U ≡ V = ap (λ S. set_up S A U.order) e in
      let L : Lawful V = subst Lawful same K in
      record {
        refill = λ codes many own.
            let C : CodesOnStairs A s codes = record {
              one_each = many;
              below = λ j l. subst⁻¹ (λ x. x < A.order) (own j (subst (λ k. j < k) many l)) (mod-lt _ (omega (arith, K.field.ring.two_codes)));
            } in
            let one = continued codes C in
            λ a admitted answer h.
            let within : Admitted U.subject.variables a = subst⁻¹ (λ S. Admitted S.variables a) e admitted in
            refilled codes C one.array one.continues a within answer h ∙
            ap Ok (own_cells periods cells A U.order some L (judged s) (subst (λ W. Row W (judged s)) same lists) codes own one.array
            (subst (λ W. Continues W (judged s) codes one.array) same one.continues) a admitted.variables);
        remainder = λ terms codes answer after h.
            (annihilators_valid periods cells L.subject.four_variables some A K.field.ring _).0
            (subst (λ S. Annihilates S A (less_remainder A terms s after)) e (remainder_differs terms codes answer after h).annihilates);
      }

  -- of a point set's
  pub points_hold : (m count : ℕ) (coordinates : List ℕ) → U.subject ≡ points_meaning m count coordinates → PointsHold U m count coordinates s
  points_hold m count coordinates e = λ terms codes answer after h.
      (annihilators_vanish m count coordinates U.field K.field.ring _).0
      (subst (λ S. Annihilates S U.field (less_remainder U.field terms s after)) e (remainder_differs terms codes answer after h).annihilates)
