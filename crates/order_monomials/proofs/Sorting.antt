-- A monomial order as the test that std's sorts go by.
use Rattle.std.proofs.Common.{◌≡◌, Bool, true, false, List, [], sym, refl, ap, ◌∙◌, inl}
use borrow.Author.Tests.{clash}
use Rattle.std.specs.Cmp.{IsStrictWeakOrder}
use Rattle.std.specs.List.Sorted.{IsSortedBy}
use Rattle.std.specs.Ordering.{is_lt}
use Rattle.std.proofs.lemmas.List.Sorted.{sorted_far}
use Rattle.monomials.specs.declared.monomial.Monomial.{Monomial}
use Rattle.monomials.specs.Monomials.{Mono, mono}
use Rattle.monomials.specs.Orders.{Order, OrderLaws, UpTo}
use Rattle.monomials.proofs.Orders as orders
use Rattle.order_monomials.specs.Ascending.{at, Ascending}

-- whether a monomial stands before another
abbrev pub before : Order → Monomial → Monomial → Bool
before O x y = is_lt (O (mono x.exponents) (mono y.exponents))

module _ (O : Order) (L : OrderLaws O) where
  -- what is not before stands at or after
  up_to : (a b : Mono) → is_lt (O b a) ≡ false → UpTo O a b
  up_to a b h = orders.not_before O L a b (λ k. absurd (clash (sym h ∙ ap is_lt k)))

  -- and the other way round
  not_after : (a b : Mono) → UpTo O a b → is_lt (O b a) ≡ false
  not_after a b u = go (is_lt (O b a)) refl
    where
      go : (r : Bool) → is_lt (O b a) ≡ r → is_lt (O b a) ≡ false
      go true e = absurd (orders.never_around O L b a (orders.before_from_test (O b a) e) u)
      go false e = e

  -- the test is lawful
  pub before_lawful : IsStrictWeakOrder (before O)
  before_lawful = record {
    one_way = λ x y h. not_after (mono x.exponents) (mono y.exponents) (inl (orders.before_from_test (O (mono x.exponents) (mono y.exponents)) h));
    chain = λ x y z h k.
        let a = mono x.exponents in
        let b = mono y.exponents in
        let c = mono z.exponents in
        not_after c a (orders.up_to_joined O L c b a (up_to c b k) (up_to b a h));
  }

  -- what is sorted by it ascends
  pub ascending_from_sorted : (xs : List Monomial) → IsSortedBy (before O) xs → Ascending O xs
  ascending_from_sorted xs sorted i j from below =
      up_to (at xs i) (at xs j) (sorted_far (before O) before_lawful xs sorted i j (record { exponents = [] }) from below)
