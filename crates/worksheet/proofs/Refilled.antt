-- What refill answers on judged lines that are finished.
use Rattle.std.proofs.Common.{◌≡◌, ℕ, List, subst}
use Rattle.fields.specs.Arithmetic.{Arithmetic}
use Rattle.monomials.specs.Monomials.{Mono}
use Rattle.refilling.specs.Refills as refilling
use Rattle.rows.specs.declared.line.Line.{Line}
use Rattle.worksheet.specs.Sheets.{Sheet, judged}
use Rattle.worksheet.specs.Questions.{RefillAdmitted, ContinuesWhereKept}

-- where nothing stands against it, the code is that of the continuation
pub refilled : (A : Arithmetic) (codes : List ℕ) (a : Mono) (s : Sheet) → RefillAdmitted A codes a s → (lines : List Line) → lines ≡ judged s →
    (code : ℕ) → refilling.Refills A s.variables lines codes a code → ContinuesWhereKept A codes a s code
refilled A codes a s admitted lines e code h U K same variables kept f c =
    subst (λ x. refilling.Refills A s.variables x codes a code) e h U K same variables kept admitted.done admitted.one_each admitted.exponents.variables f c
