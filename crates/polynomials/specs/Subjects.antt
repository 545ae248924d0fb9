-- A subject gives each monomial an image, a row of codes; a polynomial's image follows.
use Rattle.std.specs.Prelude.{◌≡◌, ℕ, ◌<◌, ◌≤◌}
use Rattle.fields.specs.Arithmetic.{Arithmetic, FieldLaws}
use Rattle.monomials.specs.Monomials.{Mono, variable}
use Rattle.polynomials.specs.Polynomials.{Poly, applied, moved_by, InVariables}

-- the number of variables, the width of an image, and the image of a monomial under a field, position by position
pub record SubjectMeaning : Type 0 where
  pub variables : ℕ
  pub width : ℕ
  pub image : Arithmetic → Mono → ℕ → ℕ

-- a polynomial's image at a position: its codes times the images of its monomials, added up
abbrev pub image_of : SubjectMeaning → Arithmetic → Poly → ℕ → ℕ
image_of S A p k = applied A (λ a. S.image A a k) p

-- the polynomial's image is zero at every position
abbrev pub Annihilates : SubjectMeaning → Arithmetic → Poly → Type 0
Annihilates S A p = (k : ℕ) → k < S.width → image_of S A p k ≡ 0

-- 1 to 4 variables, at most 64 positions, codes below the order, 0 past the width;
-- and what annihilates the subject still does after multiplication by any variable
pub record SubjectLaws (S : SubjectMeaning) : Type 0 where
  pub some_variable : 1 ≤ S.variables
  pub four_variables : S.variables ≤ 4
  pub narrow : S.width ≤ 64
  pub below : (A : Arithmetic) → FieldLaws A → (a : Mono) (k : ℕ) → S.image A a k < A.order
  pub past : (A : Arithmetic) → FieldLaws A → (a : Mono) (k : ℕ) → S.width ≤ k → S.image A a k ≡ 0
  pub closed : (A : Arithmetic) → FieldLaws A → (p : Poly) → InVariables S.variables p → Annihilates S A p →
      (v : ℕ) → v < S.variables → Annihilates S A (moved_by (variable v) p)
