-- Elements of a list in which a part was written.
use Rattle.std.proofs.Common.{◌≡◌, ℕ, ◌+◌, ◌-◌, ◌<◌, ◌≤◌, List, ◌++◌, length, get_or, take, sym, ap, ◌∙◌, subst, arith}
use borrow.Rule.Slice.PartMut.{put_mid, post_of, drop_put}
use Rattle.std.proofs.lemmas.List.{length-take-le, get_or-take, get_or-drop, get_or_append_left, get_or-append_right}

pub in_part : (a n : ℕ) (xs ys : List ℕ) (k : ℕ) → a ≤ length xs → k < length ys → get_or (put_mid a n xs ys) (a + k) 0 ≡ get_or ys k 0
in_part a n xs ys k h l =
    let same : a + k - a ≡ k = omega arith in
    get_or-append_right (take a xs) (ys ++ post_of a n xs) a (a + k) 0 (length-take-le a xs h) (omega arith) ∙ ap (λ i. get_or (ys ++ post_of a n xs) i 0) same ∙
    get_or_append_left ys (post_of a n xs) 0 k l

pub before_part : (a n : ℕ) (xs ys : List ℕ) (k : ℕ) → a ≤ length xs → k < a → get_or (put_mid a n xs ys) k 0 ≡ get_or xs k 0
before_part a n xs ys k h l =
    get_or_append_left (take a xs) (ys ++ post_of a n xs) 0 k (subst (λ m. k < m) (sym (length-take-le a xs h)) l) ∙ get_or-take a xs k 0 l

pub after_part : (a e : ℕ) (xs ys : List ℕ) (k : ℕ) → a ≤ e → e ≤ length xs → length ys ≡ e - a → e ≤ k → get_or (put_mid a (e - a) xs ys) k 0 ≡ get_or xs k 0
after_part a e xs ys k h g l m =
    let same : e + (k - e) ≡ k = omega arith in
    let whole = put_mid a (e - a) xs ys in
    ap (λ i. get_or whole i 0) (sym same) ∙ sym (get_or-drop e whole (k - e) 0) ∙ ap (λ z. get_or z (k - e) 0) (drop_put a e xs ys h g l) ∙ get_or-drop e xs (k - e) 0 ∙ ap (λ i. get_or xs i 0) same
