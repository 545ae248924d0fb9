-- One line more at the end of a list: what stands at each place.
use Rattle.std.proofs.Common.{◌≡◌, ℕ, ◌<◌, ◌⊎◌, List, [], ◌∷◌, ◌++◌, length, take, sym, refl, inl, inr, arith}
use Rattle.std.proofs.lemmas.Bool.{cases_eq}
use Rattle.std.proofs.lemmas.List.{length_push, get_or_push, get_or_append_left, take-append-le, take_at}
use Rattle.rows.specs.declared.line.Line.{Line}
use Rattle.rows.specs.Lines.{blank, line}

module _ (row : List Line) (l : Line) where
  -- the lines before it stay
  pub old_line : (i : ℕ) → i < length row → line (row ++ l ∷ []) i ≡ line row i
  old_line i h = get_or_append_left row (l ∷ []) blank i h

  -- the line stands last
  pub new_line : line (row ++ l ∷ []) (length row) ≡ l
  new_line = get_or_push row l blank (length row) refl

  -- each place is an old one or the new one
  pub cases_place : (i : ℕ) → i < length (row ++ l ∷ []) →
      ((i < length row) × (line (row ++ l ∷ []) i ≡ line row i) × (take i (row ++ l ∷ []) ≡ take i row)) ⊎
      ((i ≡ length row) × (line (row ++ l ∷ []) i ≡ l) × (take i (row ++ l ∷ []) ≡ row))
  cases_place i h = elim (cases_eq i (length row)) [
    | inl e ↦ inr (e, get_or_push row l blank i (sym e), take_at row (l ∷ []) i (sym e))
    | inr d ↦
        let b : i < length row = omega (arith, length_push row l) in
        inl (b, old_line i b, take-append-le i row (l ∷ []) (omega arith))
  ]
