-- The walk over the axes to the cell behind a position: what is found so far, and what the axes left would add.
use Rattle.std.proofs.Common.{◌≡◌, ℕ, zero, suc, ◌+◌, ◌*◌, ◌/◌, ◌%◌, ◌<◌, ◌≤◌, List, [], ◌∷◌, length, get_or, drop, sym, refl, ap, ◌∙◌, subst, subst₂, add-zero, mul-le-mul_right, mod-lt, mul_assoc, mul-le-mul_left, one-mul, mul-zero, mul-one, add-one, arith}
use native.Mathlib.Nat.{mod-one}
use Rattle.std.proofs.lemmas.List.{drop_more, drop_all, get_or_default}
use Rattle.monomials.specs.Monomials.{Mono, times, exponent}
use Rattle.polynomials.specs.Arrays.{period, cells_of, position_of, cell_at, wrapped}
use Rattle.polynomials.proofs.Wrapping.{factors, period_positive}

-- the position behind position k, over the axes from v on: along each axis the coordinate plus the exponent, wrapped
abbrev pub behind : List ℕ → ℕ → Mono → ℕ → ℕ
behind [] v a k = 0
behind (n ∷ ns) v a k = (k % n + exponent a v) % n + n * behind ns (suc v) a (k / n)

-- over all axes it is the position that the cell falls on, moved by the monomial
pub behind_all : (ns : List ℕ) → length ns ≤ 4 → (a : Mono) (k : ℕ) → behind ns 0 a k ≡ position_of ns (wrapped ns (times (cell_at ns k) a))
behind_all [] h a k = simp mod-one
behind_all (n0 ∷ []) h a k = simp mod-one
behind_all (n0 ∷ n1 ∷ []) h a k = simp mod-one
behind_all (n0 ∷ n1 ∷ n2 ∷ []) h a k = simp mod-one
behind_all (n0 ∷ n1 ∷ n2 ∷ n3 ∷ []) h a k = simp (mul-zero, add-zero)
behind_all (n0 ∷ n1 ∷ n2 ∷ n3 ∷ n4 ∷ ns) h a k = absurd (omega arith)

-- before axis v: the position so far, the scale of the next coordinate, and what is left of the position
pub record Walked (ns : List ℕ) (a : Mono) (k v place scale rest : ℕ) : Type 0 where
  pub value : place + scale * behind (drop v ns) v a rest ≡ behind ns 0 a k
  pub size : scale * cells_of (drop v ns) ≡ cells_of ns
  pub small : place < scale

-- before the first axis
pub start : (ns : List ℕ) (a : Mono) (k : ℕ) → Walked ns a k 0 0 1 k
start ns a k = record { value = omega arith; size = omega arith; small = omega arith }

-- what is left of periods with cells has cells
left_positive : (v : ℕ) (ns : List ℕ) → 0 < cells_of ns → 0 < cells_of (drop v ns)
left_positive zero ns h = h
left_positive (suc v) [] h = h
left_positive (suc v) (n ∷ ns) h = left_positive v ns (factors n (cells_of ns) h).1

-- a digit taken out of a product
digit_out : (place scale d n rest w : ℕ) → place + scale * (d + n * rest) ≡ w → place + scale * d + scale * n * rest ≡ w
digit_out place scale d n rest w e = omega arith

at_least : (scale n rest w : ℕ) → 0 < rest → scale * (n * rest) ≡ w → scale * n ≤ w
at_least scale n rest w h e = omega (arith, mul-le-mul_left (scale * n) h)

one_scale : (scale n : ℕ) → 0 < scale → scale * n ≤ 64 → n ≤ 64
one_scale scale n h l = omega (arith, mul-le-mul_right n h, one-mul n)

-- what the code asks at a period n, and a coordinate d along its axis
pub record Bounds (n place scale : ℕ) : Type 0 where
  pub positive : 0 < n
  pub small : n ≤ 64
  pub scaled : scale * n ≤ 64
  pub placed : (d : ℕ) → d < n → place + scale * d < 64

module _ (ns : List ℕ) (a : Mono) (k v place scale rest : ℕ) (some : 0 < cells_of ns) (h : v < length ns) (W : Walked ns a k v place scale rest) where
  -- the periods from v on
  here : drop v ns ≡ get_or ns v 0 ∷ drop (v + 1) ns
  here = drop_more ns v 0 h

  positive_here : 0 < get_or ns v 0
  positive_here = subst (λ n. 0 < n) (get_or_default ns v 1 0 h) (period_positive ns some v)

  scale_bound : scale * get_or ns v 0 ≤ cells_of ns
  scale_bound = at_least scale (get_or ns v 0) (cells_of (drop (v + 1) ns)) (cells_of ns) (left_positive (v + 1) ns some) (ap (λ x. scale * cells_of x) (sym here) ∙ W.size)

  place_bound : (d : ℕ) → d < get_or ns v 0 → place + scale * d < scale * get_or ns v 0
  place_bound d l = omega (arith, W.small, mul-le-mul_left scale l)

  pub bounds : cells_of ns ≤ 64 → (n : ℕ) → n ≡ get_or ns v 0 → Bounds n place scale
  bounds narrow n e = subst (λ x. Bounds x place scale) (sym e) (record {
    positive = positive_here;
    small = one_scale scale (get_or ns v 0) (omega (arith, W.small)) (omega (arith, scale_bound));
    scaled = omega (arith, scale_bound);
    placed = λ d l. omega (arith, place_bound d l, scale_bound);
  })

  -- one axis more
  pub walked : (n e : ℕ) → n ≡ get_or ns v 0 → e ≡ exponent a v → Walked ns a k (v + 1) (place + scale * ((rest % n + e) % n)) (scale * n) (rest / n)
  walked period exponent-here p q =
      let n = get_or ns v 0 in
      let d = (rest % get_or ns v 0 + exponent a v) % get_or ns v 0 in
      subst₂ (λ x y. Walked ns a k (v + 1) (place + scale * ((rest % x + y) % x)) (scale * x) (rest / x)) (sym p) (sym q) (record {
        value = digit_out place scale d n (behind (drop (v + 1) ns) (v + 1) a (rest / n)) (behind ns 0 a k)
            (ap (λ u. place + scale * (d + n * behind (drop (v + 1) ns) u a (rest / n))) (add-one v) ∙ ap (λ x. place + scale * behind x v a rest) (sym here) ∙ W.value);
        size = mul_assoc scale n (cells_of (drop (v + 1) ns)) ∙ ap (λ x. scale * cells_of x) (sym here) ∙ W.size;
        small = place_bound d (mod-lt (rest % n + exponent a v) positive_here);
      })

-- after the last axis
pub stop : (ns : List ℕ) (a : Mono) (k v place scale rest : ℕ) → length ns ≤ v → Walked ns a k v place scale rest → (place ≡ behind ns 0 a k) × (place < cells_of ns)
stop ns a k v place scale rest h W = (sym (last (behind [] v a rest) refl) ∙ ap (λ x. place + scale * behind x v a rest) (sym none) ∙ W.value, bound)
  where
    none : drop v ns ≡ []
    none = drop_all v ns h

    last : (x : ℕ) → x ≡ 0 → place + scale * x ≡ place
    last x e = rw (e, mul-zero, add-zero)

    bound : place < cells_of ns
    bound = omega (arith, W.small, mul-one scale, ap (λ x. scale * cells_of x) (sym none) ∙ W.size)
