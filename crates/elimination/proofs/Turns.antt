-- The turns of the loop over the lines.
use Rattle.std.proofs.Common.{◌≡◌, ℕ, ◌+◌, ◌<◌, ◌≤◌, List, [], ◌∷◌, ◌++◌, length, take, sym, ap, ◌∙◌, subst, arith}
use Rattle.std.proofs.lemmas.List.{take_more}
use Rattle.fields.specs.Arithmetic.{Arithmetic, RingLaws}
use Rattle.rows.specs.declared.line.Line.{Line}
use Rattle.rows.specs.declared.verdict.Verdict.TheVariants.{Stair as stair, Relation as relation}
use Rattle.rows.specs.Lines.{blank, line, stairs_of}
use Rattle.rows.proofs.Verdicts.{tells_stair, tells_relation}
use Rattle.elimination.specs.Clearings.{Eliminated, Cleared}
use Rattle.elimination.proofs.Pushes.{stairs_same, stairs_length}
use Rattle.elimination.proofs.Steps as steps

-- the image is cleared by the first i lines, which have as many stairs as place says
pub record ClearedTo (A : Arithmetic) (w : ℕ) (lines : List Line) (i place : ℕ) (image image₁ codes : List ℕ) : Type 0 where
  pub long : length image₁ ≡ 64
  pub wide : length codes ≡ 64
  pub behind : place ≤ i
  pub counted : place ≡ length (stairs_of (take i lines))
  pub cleared : Cleared A w (take i lines) image image₁ codes

module _ (A : Arithmetic) (L : RingLaws A) (w : ℕ) (lines : List Line) (i place : ℕ) (h : i < length lines) (image image₁ codes₁ : List ℕ)
    (C : ClearedTo A w lines i place image image₁ codes₁) where
  -- the lines up to this one
  more : take (i + 1) lines ≡ take i lines ++ line lines i ∷ []
  more = take_more lines i blank h

  -- a relation
  pub relation_turn : (line lines i).verdict ≡ relation → ClearedTo A w lines (i + 1) place image image₁ codes₁
  relation_turn v =
      let f = tells_relation (line lines i) v in
      record {
        long = C.long;
        wide = C.wide;
        behind = omega (arith, C.behind);
        counted = C.counted ∙ ap length (sym (ap stairs_of more ∙ stairs_same (take i lines) (line lines i) f));
        cleared = subst (λ (x : List Line). Cleared A w x image image₁ codes₁) (sym more) (steps.relation_passed A L w (take i lines) (line lines i) image image₁ codes₁ C.cleared f);
      }

  module _ (v : (line lines i).verdict ≡ stair) where
    -- one stair more
    counted_more : place + 1 ≡ length (stairs_of (take (i + 1) lines))
    counted_more = omega (arith, C.counted, ap (λ (x : List Line). length (stairs_of x)) more ∙ stairs_length (take i lines) (line lines i) (tells_stair (line lines i) v))

    -- a stair past the 64 that have a place
    pub skipped_turn : w ≤ 64 → 64 ≤ place → ClearedTo A w lines (i + 1) (place + 1) image image₁ codes₁
    skipped_turn b g = record {
      long = C.long;
      wide = C.wide;
      behind = omega (arith, C.behind);
      counted = counted_more;
      cleared = subst (λ (x : List Line). Cleared A w x image image₁ codes₁) (sym more)
          (steps.stair_passed A L w (take i lines) (line lines i) image image₁ codes₁ C.cleared (tells_stair (line lines i) v) b (omega (arith, C.counted)));
    }

    -- a stair
    pub stair_turn : (image₂ codes₂ : List ℕ) (x : ℕ) → length image₂ ≡ 64 → length codes₂ ≡ 64 → Eliminated A w place (line lines i) image₁ codes₁ image₂ codes₂ x →
        ClearedTo A w lines (i + 1) (place + 1) image image₂ codes₂
    stair_turn image₂ codes₂ x long wide E = record {
      long = long;
      wide = wide;
      behind = omega (arith, C.behind);
      counted = counted_more;
      cleared = subst (λ (y : List Line). Cleared A w y image image₂ codes₂) (sym more)
          (steps.stair_cleared A L w (take i lines) (line lines i) image image₁ codes₁ C.cleared (tells_stair (line lines i) v) image₂ codes₂ x
          (subst (λ p. Eliminated A w p (line lines i) image₁ codes₁ image₂ codes₂ x) C.counted E));
    }
