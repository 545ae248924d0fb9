-- What a line's verdict says, by the test of it.
use Rattle.std.proofs.Common.{◌≡◌, ℕ, ◌<◌, Bool, true, false, List, get_or, refl, ap, subst, inl, inr}
use Rattle.std.proofs.lemmas.Bool.{both_ways, cases_lt}
use Rattle.fields.specs.Arithmetic.{Arithmetic}
use Rattle.polynomials.specs.Subjects.{SubjectMeaning}
use Rattle.rows.specs.declared.line.Line.{Line}
use Rattle.rows.specs.declared.verdict.Verdict.{Verdict}
use Rattle.rows.specs.declared.verdict.Verdict.TheVariants.{Stair as stair, Relation as relation}
use Rattle.rows.specs.Lines.{is_stair, Says, Stands}

-- the verdict of a stair
pub verdict_stair : (l : Line) → is_stair l ≡ true → l.verdict ≡ stair
verdict_stair l = go l.verdict
  where
    go : (v : Verdict) → ◌≡◌ {A = Bool} (elim v [ stair ↦ true | relation ↦ false ]) true → v ≡ stair
    go stair e = refl
    go relation e = absurd (both_ways false refl e)

-- the verdict of a relation
pub verdict_relation : (l : Line) → is_stair l ≡ false → l.verdict ≡ relation
verdict_relation l = go l.verdict
  where
    go : (v : Verdict) → ◌≡◌ {A = Bool} (elim v [ stair ↦ true | relation ↦ false ]) false → v ≡ relation
    go stair e = absurd (both_ways true e refl)
    go relation e = refl

-- a stair, by its verdict
pub tells_stair : (l : Line) → l.verdict ≡ stair → is_stair l ≡ true
tells_stair l e = ap (λ v. elim v [ stair ↦ true | relation ↦ false ]) e

-- a relation, by its verdict
pub tells_relation : (l : Line) → l.verdict ≡ relation → is_stair l ≡ false
tells_relation l e = ap (λ v. elim v [ stair ↦ true | relation ↦ false ]) e

module _ (S : SubjectMeaning) (A : Arithmetic) (before : List Line) (l : Line) (s : Stands S A before l) where
  -- a stair's pivot is the first position at which its image is not 0
  pub stair_says : is_stair l ≡ true → (l.pivot < S.width) × (get_or l.image l.pivot 0 ≡ 0 → ⊥) × ((k : ℕ) → k < l.pivot → get_or l.image k 0 ≡ 0)
  stair_says e =
      let h : Says stair l = subst (λ v. Says v l) (verdict_stair l e) s.says in
      let inside : l.pivot < S.width = elim (cases_lt l.pivot S.width) [ inl b ↦ b | inr g ↦ absurd (h.0 (s.past l.pivot g)) ] in
      (inside, h.0, h.1)

  -- a relation's image is 0
  pub relation_says : is_stair l ≡ false → (l.pivot ≡ 64) × ((k : ℕ) → get_or l.image k 0 ≡ 0)
  relation_says e = subst (λ v. Says v l) (verdict_relation l e) s.says
