-- Lists of codes that are 0: all of them, or those from a place on.
use Rattle.std.proofs.Common.{◌≡◌, ℕ, zero, suc, ◌+◌, ◌-◌, ◌<◌, ◌≤◌, List, ◌++◌, length, get_or, take, drop, replicate, sym, refl, ap, ◌∙◌, arith}
use lib.ListN.{length-replicate, get_or-replicate}
use Rattle.std.proofs.lemmas.List.{get_or_default, get_or-drop, length-drop, take-append-drop, same_lists}

-- whatever the place
pub zeros : (n j : ℕ) → get_or {A = ℕ} (replicate n 0) j 0 ≡ 0
zeros zero j = refl
zeros (suc n) zero = refl
zeros (suc n) (suc j) = zeros n j

-- what stands from the place on is a list of zeros
pub zeros_after : (xs : List ℕ) (w : ℕ) → ((k : ℕ) → w ≤ k → get_or xs k 0 ≡ 0) → xs ≡ take w xs ++ replicate (length xs - w) 0
zeros_after xs w zero-from =
    let n = length xs - w in
    let long : length (drop w xs) ≡ n = length-drop w xs in
    let rest : drop w xs ≡ replicate n 0 =
    same_lists (drop w xs) (replicate n 0) (long ∙ sym (length-replicate n 0))
    (λ k d h.
    let l : k < n = omega (arith, long) in
    get_or_default (drop w xs) k d 0 h ∙ get_or-drop w xs k 0 ∙ zero-from (w + k) (omega arith) ∙ sym (get_or-replicate n k 0 d l)) in
    sym (take-append-drop w xs) ∙ ap (λ ys. take w xs ++ ys) rest
