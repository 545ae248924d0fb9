-- What annihilates a subject annihilates it at every offset.
use Rattle.std.proofs.Common.{◌≡◌, ℕ, ◌<◌, sym, ap, ◌∙◌, subst}
use mathlib.Core.Path.{fun_ext}
use Rattle.fields.specs.Arithmetic.{Arithmetic, RingLaws, FieldLaws}
use Rattle.fields.proofs.Rings as rings
use Rattle.monomials.specs.Monomials.{Mono, times, variable, Within}
use Rattle.monomials.specs.MonomialsLemmas.{by_variables}
use Rattle.polynomials.specs.Polynomials.{Poly, applied, moved_by, InVariables}
use Rattle.polynomials.specs.Subjects.{SubjectMeaning, SubjectLaws, Annihilates}
use Rattle.polynomials.proofs.Polynomials.{applied_moved, applied_times, moved_one, moved_twice, moved_within}

-- by induction over the offset
pub annihilates_at : (S : SubjectMeaning) → SubjectLaws S → (A : Arithmetic) → FieldLaws A →
    (p : Poly) → InVariables S.variables p → Annihilates S A p →
    (b : Mono) → Within S.variables b → Annihilates S A (moved_by b p)
annihilates_at S K A L p u h = by_variables S.variables (λ b. Annihilates S A (moved_by b p))
    (subst (Annihilates S A) (sym (moved_one p)) h)
    (λ b v l w ih. subst (Annihilates S A) (moved_twice b (variable v) p)
    (K.closed A L (moved_by b p) (moved_within S.variables b w p u) ih v l))

-- how the law `closed` is shown: a variable more at a position is a factor at some position
pub closed_by_steps : (S : SubjectMeaning) (A : Arithmetic) → RingLaws A → (v : ℕ) →
    ((k : ℕ) → k < S.width → (c : ℕ) × (k' : ℕ) × (k' < S.width) ×
    ((a : Mono) → S.image A (times a (variable v)) k ≡ A.product c (S.image A a k'))) →
    (p : Poly) → Annihilates S A p → Annihilates S A (moved_by (variable v) p)
closed_by_steps S A L v step p h k l =
    let (c, k', l', e) = step k l in
    applied_moved A (λ a. S.image A a k) (variable v) p ∙
    ap (λ f. applied A f p) (fun_ext e) ∙
    applied_times A L c (λ a. S.image A a k') p ∙
    ap (A.product c) (h k' l') ∙
    rings.product_zero A L c
