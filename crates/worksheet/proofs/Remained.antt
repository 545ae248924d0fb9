-- What remainder writes on judged lines that are finished.
use Rattle.std.proofs.Common.{◌≡◌, ℕ, suc, List, [], ◌∷◌, length, refl, ◌∙◌, subst, inl, inr, arith}
use mathlib.Core.Path.{subst⁻¹}
use Rattle.elimination.specs.Remainders.{RemainderOf}
use Rattle.faults.specs.Places.{NoneAt}
use Rattle.fields.specs.Arithmetic.{Arithmetic}
use Rattle.monomials.specs.MonomialsLemmas.{cases_within}
use Rattle.polynomials.specs.declared.term.Term.{Term}
use Rattle.polynomials.specs.Polynomials.{InVariables}
use Rattle.polynomials.specs.Subjects.{SubjectMeaning}
use Rattle.polynomials.specs.Terms.{monomial_of, poly, ExponentFault}
use Rattle.rows.specs.declared.line.Line.{Line}
use Rattle.rows.specs.Sheets.{Finished}
use Rattle.worksheet.specs.Sheets.{Sheet, judged, set_up}
use Rattle.worksheet.specs.Questions.{RemainderAdmitted, RemainsWhereKept}

-- the admitted terms keep to the variables
pub terms_within : (m : ℕ) (ts : List Term) → NoneAt (ExponentFault m ts) → InVariables m (poly ts)
terms_within m [] none = tt
terms_within m (t ∷ ts) none = (
  elim (cases_within m (monomial_of t)) [ inl w ↦ w | inr d ↦ absurd (none 0 (omega arith, λ admitted. d admitted.variables)) ],
  terms_within m ts (λ i h. none (suc i) (omega (arith, h.0), h.1)),
)

-- where nothing stands against it, the codes are those of the remainder
pub remained : (S : SubjectMeaning) (A : Arithmetic) (ts : List Term) (s : Sheet) (room : ℕ) → RemainderAdmitted S A ts s room →
    (lines : List Line) → lines ≡ judged s → (codes : List ℕ) → length codes ≡ room → RemainderOf S A lines (poly ts) codes → RemainsWhereKept S A ts s codes
remained S A ts s room admitted lines e codes many h O K kept =
    subst (λ x. RemainderOf S A x (poly ts) codes) e h (set_up S A O) refl refl K kept
    (subst⁻¹ (λ m. Finished m (judged s)) admitted.fits.subject.variables admitted.done)
    (terms_within S.variables ts admitted.terms.exponents) (many ∙ admitted.one_each)
