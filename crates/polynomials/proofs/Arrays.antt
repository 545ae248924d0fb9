-- A periodic array is a subject, and its annihilators are the polynomials valid for the infinite array.
use Rattle.std.proofs.Common.{◌≡◌, ℕ, ◌%◌, ◌<◌, ◌≤◌, ltb, List, length, get_or, sym, ap, ◌∙◌, mod-lt, mod-eq_of_lt, arith}
use mathlib.Core.Path.{fun_ext}
use native.Mathlib.Nat.{zero-mod, zero-div}
use Rattle.std.proofs.lemmas.Bool.{lt-ltb, le-ltb, cond-true, cond-false, cond_both}
use Rattle.fields.specs.Arithmetic.{Arithmetic, RingLaws}
use Rattle.fields.proofs.Rings as rings
use Rattle.monomials.specs.Monomials.{Mono, one, times, variable}
use Rattle.monomials.specs.MonomialsLemmas.{mono_path, times_comm, times_assoc, one_times}
use Rattle.polynomials.specs.Arrays.{period, cells_of, position_of, cell_at, wrapped, infinite_array, array_meaning, Valid, AnnihilatorsAreValid}
use Rattle.polynomials.specs.Polynomials.{applied}
use Rattle.polynomials.specs.Subjects.{SubjectLaws, Annihilates}
use Rattle.polynomials.proofs.Subjects.{closed_by_steps}
use Rattle.polynomials.proofs.Wrapping.{cell_at_position, wrapped_times, wrapped_inside, cell_within, position_below}

-- 1 times a code
one_code : (A : Arithmetic) → RingLaws A → (x : ℕ) → x < A.order → A.product 1 x ≡ x
one_code A L x h = rings.one_product A L x ∙ mod-eq_of_lt h

-- the factors of a cell, a monomial and a variable
reordered : (c a b : Mono) → times c (times a b) ≡ times (times c b) a
reordered c a b = ap (times c) (times_comm a b) ∙ sym (times_assoc c b a)

module _ (ns cells : List ℕ) (few : length ns ≤ 4) where
  -- the position that coordinates fall on
  abbrev fallen : Mono → ℕ
  fallen c = position_of ns (wrapped ns c)

  module _ (A : Arithmetic) where
    -- a code of the array is below the order
    code_below : RingLaws A → (c : Mono) → infinite_array ns cells A c < A.order
    code_below L c = mod-lt (get_or cells (fallen c) 0) (rings.some_code A L)

    -- an image inside the width
    image_inside : (a : Mono) (k : ℕ) → k < cells_of ns → (array_meaning ns cells).image A a k ≡ infinite_array ns cells A (times (cell_at ns k) a)
    image_inside a k h = cond-true (ltb k (cells_of ns)) (infinite_array ns cells A (times (cell_at ns k) a)) 0 (lt-ltb k (cells_of ns) h)

    -- the image at the position that coordinates fall on is the code of the infinite array at these coordinates, moved
    image_fallen : 0 < cells_of ns → (c a : Mono) → (array_meaning ns cells).image A a (fallen c) ≡ infinite_array ns cells A (times c a)
    image_fallen some c a =
        let i = wrapped_inside ns some c in
        image_inside a (fallen c) (position_below ns some few (wrapped ns c) i) ∙
        ap (λ x. infinite_array ns cells A (times x a)) (cell_at_position ns (wrapped ns c) i) ∙
        ap (λ x. get_or cells (position_of ns x) 0 % A.order) (wrapped_times ns c a)

  fallen_below : 0 < cells_of ns → (c : Mono) → fallen c < cells_of ns
  fallen_below some c = position_below ns some few (wrapped ns c) (wrapped_inside ns some c)

  -- the laws
  pub array_laws : 1 ≤ length ns → cells_of ns ≤ 64 → SubjectLaws (array_meaning ns cells)
  array_laws some narrow = record {
    some_variable = some;
    four_variables = few;
    narrow = narrow;
    below = λ A L a k. cond_both (ltb k (cells_of ns)) (infinite_array ns cells A (times (cell_at ns k) a)) 0 (λ x. x < A.order)
        (λ _. code_below A L.ring (times (cell_at ns k) a)) (λ _. rings.some_code A L.ring);
    past = λ A L a k h. cond-false (ltb k (cells_of ns)) (infinite_array ns cells A (times (cell_at ns k) a)) 0 (le-ltb k (cells_of ns) h);
    closed = λ A L p u h v l. closed_by_steps (array_meaning ns cells) A L.ring v
        (λ k b.
        let here : Mono = times (cell_at ns k) (variable v) in (
          1,
          fallen here,
          fallen_below (omega arith) here,
          λ a.
              image_inside A (times a (variable v)) k b ∙
              ap (infinite_array ns cells A) (reordered (cell_at ns k) a (variable v)) ∙
              sym (one_code A L.ring (infinite_array ns cells A (times here a)) (code_below A L.ring (times here a))) ∙
              ap (A.product 1) (sym (image_fallen A (omega arith) here a)),
        ))
        p h;
  }

  -- an offset falls on a cell, and a cell is an offset
  pub annihilators_valid : 0 < cells_of ns → AnnihilatorsAreValid ns cells
  annihilators_valid some A L p = (to, from)
    where
      to : Annihilates (array_meaning ns cells) A p → Valid A (length ns) (infinite_array ns cells A) p
      to h b w = sym (ap (λ f. applied A f p) (fun_ext (λ a. image_fallen A some b a ∙ ap (infinite_array ns cells A) (times_comm b a)))) ∙ h (fallen b) (fallen_below some b)

      from : Valid A (length ns) (infinite_array ns cells A) p → Annihilates (array_meaning ns cells) A p
      from h k l = ap (λ f. applied A f p) (fun_ext (λ a. image_inside A a k l ∙ ap (infinite_array ns cells A) (times_comm (cell_at ns k) a))) ∙ h (cell_at ns k) (cell_within ns k)

  -- the image at the first position is the infinite array itself
  pub image_first : 0 < cells_of ns → (A : Arithmetic) (a : Mono) → (array_meaning ns cells).image A a 0 ≡ infinite_array ns cells A a
  image_first some A a = image_inside A a 0 some ∙ ap (λ c. infinite_array ns cells A (times c a)) first ∙ ap (infinite_array ns cells A) (one_times a)
    where
      first : cell_at ns 0 ≡ one
      first = mono_path (zero-mod (period ns 0)) (simp (zero-div, zero-mod)) (simp (zero-div, zero-mod)) (simp (zero-div, zero-mod))
