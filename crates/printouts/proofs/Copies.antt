-- Lists of lines that agree place by place.
use Rattle.std.proofs.Common.{◌≡◌, ℕ, ◌<◌, List, length, sym, ◌∙◌, arith}
use Rattle.std.proofs.lemmas.List.{get_or_default, same_lists}
use Rattle.rows.specs.declared.line.Line.{Line}
use Rattle.rows.specs.Lines.{blank, line}

-- lists of one length that agree are the same
pub copied : (copies lines : List Line) → length lines ≡ length copies → ((j : ℕ) → j < length copies → line copies j ≡ line lines j) → copies ≡ lines
copied copies lines long agree = same_lists copies lines (sym long) (λ k d h. get_or_default copies k d blank h ∙ agree k h ∙ get_or_default lines k blank d (omega (arith, h, long)))
