-- How monomials in two variables are written.
use Rattle.std.specs.Prelude.{ℕ, cond, List, ◌++◌, codes, decimal, ◌==◌}
use Rattle.std.proofs.Math.Utf8.{encode}
use Rattle.monomials.specs.Monomials.{Mono}

-- a power of a variable, as u or u^2
abbrev pub power_text : ℕ → ℕ → List ℕ
power_text variable exponent = cond (exponent == 1) (encode variable) (encode variable ++ (codes "^" ++ decimal exponent))

-- the powers that occur, with a space between, or 1 where none does
abbrev pub monomial_text : Mono → List ℕ
monomial_text a =
    cond (a.e1 == 0)
    (cond (a.e0 == 0) (codes "1") (power_text 117 a.e0))
    (cond (a.e0 == 0) (power_text 118 a.e1) (power_text 117 a.e0 ++ (codes " " ++ power_text 118 a.e1)))
