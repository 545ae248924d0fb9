-- A monomial order over exponents of any size, and its laws.
use Rattle.std.specs.Prelude.{◌≡◌, ◌⊎◌, ◌≢◌}
use Rattle.std.specs.declared.cmp.Ordering.TheVariants.{Less, Equal, Greater}
use Rattle.std.specs.declared.cmp.Ordering.{Ordering}
use Rattle.monomials.specs.Monomials.{Mono, one, times}

-- says of two monomials whether the first is before the second, the same, or after
abbrev pub Order : Type 0
Order = Mono → Mono → Ordering

-- a stands before b
abbrev pub Before : Order → Mono → Mono → Type 0
Before O a b = O a b ≡ Less

-- a stands before b, or is b
abbrev pub UpTo : Order → Mono → Mono → Type 0
UpTo O a b = Before O a b ⊎ (a ≡ b)

-- the answer when the two change places
abbrev pub turned : Ordering → Ordering
turned Less = Greater
turned Equal = Equal
turned Greater = Less

-- the answer turns when the two change places; the same only for equal monomials; transitive;
-- one factor on both sides changes no answer; 1 is before all others
pub record OrderLaws (O : Order) : Type 0 where
  pub total : (a b : Mono) → O b a ≡ turned (O a b)
  pub equal : (a b : Mono) → O a b ≡ Equal → a ≡ b
  pub transitive : (a b c : Mono) → O a b ≡ Less → O b c ≡ Less → O a c ≡ Less
  pub moved : (a b c : Mono) → O (times a c) (times b c) ≡ O a b
  pub least : (a : Mono) → (a ≢ one) → O one a ≡ Less
