-- The stairs of lines with one line more.
use Rattle.std.proofs.Common.{◌≡◌, ℕ, ◌+◌, ◌<◌, true, false, cond, List, [], ◌∷◌, ◌++◌, length, sym, ap, ◌∙◌, append-nil}
use Rattle.std.proofs.lemmas.List.{length_push, get_or_push, get_or_append_left}
use Rattle.std.proofs.lemmas.List.Elements.{filter-append}
use Rattle.rows.specs.declared.line.Line.{Line}
use Rattle.rows.specs.Lines.{blank, line, is_stair, stairs_of}

module _ (before : List Line) (l : Line) where
  -- a stair more
  pub stairs_more : is_stair l ≡ true → stairs_of (before ++ l ∷ []) ≡ stairs_of before ++ l ∷ []
  stairs_more t = filter-append is_stair before (l ∷ []) ∙ ap (λ b. stairs_of before ++ cond b (l ∷ []) []) t

  -- no stair more
  pub stairs_same : is_stair l ≡ false → stairs_of (before ++ l ∷ []) ≡ stairs_of before
  stairs_same f = filter-append is_stair before (l ∷ []) ∙ ap (λ b. stairs_of before ++ cond b (l ∷ []) []) f ∙ append-nil (stairs_of before)

  -- how many
  pub stairs_length : is_stair l ≡ true → length (stairs_of (before ++ l ∷ [])) ≡ length (stairs_of before) + 1
  stairs_length t = ap length (stairs_more t) ∙ length_push (stairs_of before) l

  -- the stairs before it
  pub stair_old : is_stair l ≡ true → (j : ℕ) → j < length (stairs_of before) → line (stairs_of (before ++ l ∷ [])) j ≡ line (stairs_of before) j
  stair_old t j h = ap (λ x. line x j) (stairs_more t) ∙ get_or_append_left (stairs_of before) (l ∷ []) blank j h

  -- the stair itself
  pub stair_new : is_stair l ≡ true → (j : ℕ) → j ≡ length (stairs_of before) → line (stairs_of (before ++ l ∷ [])) j ≡ l
  stair_new t j e = ap (λ x. line x j) (stairs_more t) ∙ get_or_push (stairs_of before) l blank j (sym e)
