-- The texts of a list's elements, joined one in each turn.
use Rattle.std.proofs.Common.{◌≡◌, ℕ, ◌+◌, ◌<◌, ◌≤◌, List, [], ◌++◌, length, get_or, take, sym, ap, ◌∙◌}
use Rattle.std.specs.List.{flat_map}
use Rattle.std.proofs.lemmas.List.{flat_map_more, take_more, take_all}

module _ {X : Type 0} (f : X → List ℕ) (xs : List X) (i : ℕ) where
  -- one more element
  pub joined_next : (d : X) → i < length xs → flat_map f (take (i + 1) xs) ≡ flat_map f (take i xs) ++ f (get_or xs i d)
  joined_next d h = ap (flat_map f) (take_more xs i d h) ∙ sym (flat_map_more f [] (take i xs) (get_or xs i d))

  -- no element is left
  pub joined_all : length xs ≤ i → flat_map f (take i xs) ≡ flat_map f xs
  joined_all h = ap (flat_map f) (take_all i xs h)
