-- Lines behind the 64th stair change nothing, turn by turn.
use Rattle.std.proofs.Common.{◌≡◌, ℕ, ◌+◌, ◌<◌, ◌≤◌, List, length, take, sym, subst, inl, inr, arith}
use Rattle.std.proofs.lemmas.Bool.{cases_eq}
use Rattle.fields.specs.Arithmetic.{Arithmetic}
use Rattle.rows.specs.declared.line.Line.{Line}
use Rattle.rows.specs.Lines.{stairs_of}
use Rattle.elimination.specs.Clearings.{Cleared}
use Rattle.elimination.proofs.Turns.{ClearedTo}

-- up to line i there were no more stairs than place says; and by any first lines with 64 of them the image is cleared as well
pub record PassedTo (A : Arithmetic) (w : ℕ) (lines : List Line) (i place : ℕ) (image image₁ codes : List ℕ) : Type 0 where
  pub low : (k : ℕ) → k ≤ i → length (stairs_of (take k lines)) ≤ place
  pub passed : (k : ℕ) → k ≤ i → 64 ≤ length (stairs_of (take k lines)) → Cleared A w (take k lines) image image₁ codes

-- cleared so far, and lines behind the 64th stair passed over
pub record Turned (A : Arithmetic) (w : ℕ) (lines : List Line) (i place : ℕ) (image image₁ codes : List ℕ) : Type 0 where
  pub to : ClearedTo A w lines i place image image₁ codes
  pub behind : PassedTo A w lines i place image image₁ codes

-- only 0 is up to 0
none : (k : ℕ) → k ≤ 0 → k ≡ 0
none k b = omega arith

-- before the first line there is no stair
pub none_passed : (A : Arithmetic) (w : ℕ) (lines : List Line) (image image₁ codes : List ℕ) → PassedTo A w lines 0 0 image image₁ codes
none_passed A w lines image image₁ codes =
    let at_zero : (P : ℕ → Type 0) → P 0 → (k : ℕ) → k ≤ 0 → P k = λ P p k b. subst P (sym (none k b)) p in
    record {
      low = at_zero (λ k. length (stairs_of (take k lines)) ≤ 0) (omega arith);
      passed = at_zero (λ k. 64 ≤ length (stairs_of (take k lines)) → Cleared A w (take k lines) image image₁ codes) (λ g. absurd (omega arith));
    }

-- what holds up to here and of the next holds up to the next
next_too : (i : ℕ) (P : ℕ → Type 0) → ((k : ℕ) → k ≤ i → P k) → P (i + 1) → (k : ℕ) → k ≤ i + 1 → P k
next_too i P here next k b = elim (cases_eq k (i + 1)) [
  | inl e ↦ subst P (sym e) next
  | inr d ↦ here k (omega arith)
]

module _ (A : Arithmetic) (w : ℕ) (lines : List Line) (i place : ℕ) (image image₁ codes₁ : List ℕ) (P : PassedTo A w lines i place image image₁ codes₁) where
  -- the next line leaves no fewer stairs, and what the first lines with 64 of them leave stays cleared by them
  turn_passed : (place₂ : ℕ) (image₂ codes₂ : List ℕ) → place ≤ place₂ → ClearedTo A w lines (i + 1) place₂ image image₂ codes₂ →
      ((k : ℕ) → k ≤ i → 64 ≤ length (stairs_of (take k lines)) → Cleared A w (take k lines) image image₂ codes₂) →
      PassedTo A w lines (i + 1) place₂ image image₂ codes₂
  turn_passed place₂ image₂ codes₂ more next here = record {
    low = next_too i (λ k. length (stairs_of (take k lines)) ≤ place₂) (λ k b. omega (arith, P.low k b)) (omega (arith, next.counted));
    passed = next_too i (λ k. 64 ≤ length (stairs_of (take k lines)) → Cleared A w (take k lines) image image₂ codes₂) here (λ g. next.cleared);
  }

  -- a line that is not added
  pub unchanged_turn : (place₂ : ℕ) → place ≤ place₂ → ClearedTo A w lines (i + 1) place₂ image image₁ codes₁ → Turned A w lines (i + 1) place₂ image image₁ codes₁
  unchanged_turn place₂ more next = record { to = next; behind = turn_passed place₂ image₁ codes₁ more next P.passed }

  -- a stair that has a place: no first lines have 64 stairs yet
  pub added_turn : place < 64 → (image₂ codes₂ : List ℕ) → ClearedTo A w lines (i + 1) (place + 1) image image₂ codes₂ →
      Turned A w lines (i + 1) (place + 1) image image₂ codes₂
  added_turn few image₂ codes₂ next =
      record { to = next; behind = turn_passed (place + 1) image₂ codes₂ (omega arith) next (λ k b g. absurd (omega (arith, P.low k b))) }
