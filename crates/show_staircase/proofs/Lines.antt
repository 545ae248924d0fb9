-- The lines of a text, as they are read one after another.
use Rattle.std.proofs.Common.{◌≡◌, ℕ, Bool, true, false, List, [], ◌∷◌, ◌++◌, length, codes, sym, ap, ◌∙◌, Bor, Some, None, refl, arith}
use mathlib.Core.List.{append_assoc, append-nil}
use mathlib.Core.Path.{subst⁻¹}
use Rattle.std.specs.declared.str.Lines.{Lines}
use Rattle.std.specs.Iterator.{AlwaysYields}
use Rattle.std.specs.Str.Iter.{lines_steps}
use Rattle.show_staircase.specs.declared.marks.Listed.{Listed}
use Rattle.show_staircase.specs.Readings.{Counting, Lists, ListsEach}
use Rattle.show_staircase.proofs.Drawn.{each_more}

-- what is left of a text's lines
abbrev pub Left : Lines → List (List ℕ) → Type 0
Left rest texts = AlwaysYields lines_steps (λ line. line.now) rest texts

-- a line that comes is the first of those left
pub comes : (left : List (List ℕ)) (rest after : Lines) (line : Bor (List ℕ)) → Left rest left → lines_steps rest (Some line) after →
    (more : List (List ℕ)) × (left ≡ line.now ∷ more) × Left after more
comes [] rest after line yields step = absurd (yields line after step)
comes (text ∷ more) rest after line yields step =
    let one = yields.1 line after step in
    (more, ap (λ first. first ∷ more) (sym one.0), one.1)

-- where no line comes, none is left
pub none_left : (left : List (List ℕ)) (rest after : Lines) → Left rest left → lines_steps rest None after → left ≡ []
none_left [] rest after yields step = refl
none_left (text ∷ more) rest after yields step = absurd (yields.0 after step)

-- lines list monomials, and then comes the score where it was read
pub data UpTo (seen : List (List ℕ)) (ls : List Listed) : Bool → Type 0 where
  before : ListsEach seen ls → UpTo seen ls false
  scored : (each : List (List ℕ)) (score : List ℕ) → seen ≡ each ++ score ∷ [] → ListsEach each ls → Counting (codes "score") score → UpTo seen ls true

-- the lines that were read, up to the score where it was read, and those that are yet to come
pub record Sofar (texts : List (List ℕ)) (rest : Lines) (ls : List Listed) (is_scored : Bool) : Type 0 where
  pub seen : List (List ℕ)
  pub left : List (List ℕ)
  pub whole : texts ≡ seen ++ left
  pub come : Left rest left
  pub told : UpTo seen ls is_scored

-- nothing was read yet
pub none_read : (texts : List (List ℕ)) (rest : Lines) → Left rest texts → Sofar texts rest [] false
none_read texts rest yields = record { seen = []; left = texts; whole = refl; come = yields; told = before tt }

-- the lines that were read, the next, and those after it
pub around : {texts : List (List ℕ)} {rest : Lines} {ls : List Listed} {is_scored : Bool} → (so_far : Sofar texts rest ls is_scored) →
    (after : Lines) (line : Bor (List ℕ)) → lines_steps rest (Some line) after →
    (more : List (List ℕ)) × (texts ≡ so_far.seen ++ line.now ∷ more) × Left after more
around so_far after line step =
    let next = comes so_far.left _ after line so_far.come step in
    (next.0, so_far.whole ∙ ap (λ left. so_far.seen ++ left) next.1, next.2)

-- before the score each line lists a monomial
pub each : {seen : List (List ℕ)} {ls : List Listed} → UpTo seen ls false → ListsEach seen ls
each (before told) = told

-- one line more is read
one_more : {texts : List (List ℕ)} {rest : Lines} {ls : List Listed} {is_scored : Bool} → (so_far : Sofar texts rest ls is_scored) →
    (after : Lines) (line : Bor (List ℕ)) → lines_steps rest (Some line) after →
    (more : List Listed) (scored_then : Bool) → UpTo (so_far.seen ++ line.now ∷ []) more scored_then → Sofar texts after more scored_then
one_more so_far after line step more scored_then told =
    let next = around so_far after line step in
    record {
      seen = so_far.seen ++ line.now ∷ [];
      left = next.0;
      whole = next.1 ∙ sym (append_assoc so_far.seen (line.now ∷ []) next.0);
      come = next.2;
      told = told;
    }

-- a line more lists a monomial
pub monomial_more : {texts : List (List ℕ)} {rest : Lines} {ls : List Listed} → (so_far : Sofar texts rest ls false) →
    (after : Lines) (line : Bor (List ℕ)) → lines_steps rest (Some line) after → (l : Listed) → Lists line.now l →
    (more : List Listed) → more ≡ ls ++ l ∷ [] → Sofar texts after more false
monomial_more {ls = ls} so_far after line step l one more pushed =
    one_more so_far after line step more false (before (subst⁻¹ (ListsEach (so_far.seen ++ line.now ∷ [])) pushed
    (each_more so_far.seen ls line.now l (each so_far.told) one)))

-- a line more is the score
pub score_more : {texts : List (List ℕ)} {rest : Lines} {ls : List Listed} → (so_far : Sofar texts rest ls false) →
    (after : Lines) (line : Bor (List ℕ)) → lines_steps rest (Some line) after → Counting (codes "score") line.now → Sofar texts after ls true
score_more {ls = ls} so_far after line step counting =
    one_more so_far after line step ls true (scored so_far.seen line.now refl (each so_far.told) counting)

-- all lines were read
pub all_read : {texts : List (List ℕ)} {rest : Lines} {ls : List Listed} {is_scored : Bool} → (so_far : Sofar texts rest ls is_scored) →
    (after : Lines) → lines_steps rest None after → texts ≡ so_far.seen
all_read so_far after step =
    so_far.whole ∙ ap (λ left. so_far.seen ++ left) (none_left so_far.left _ after so_far.come step) ∙ append-nil so_far.seen

-- as many lines as monomials
pub each_length : (lines : List (List ℕ)) (ls : List Listed) → ListsEach lines ls → length lines ≡ length ls
each_length [] [] told = refl
each_length [] (l ∷ ls) told = absurd told
each_length (line ∷ lines) [] told = absurd told
each_length (line ∷ lines) (l ∷ ls) told = omega (arith, each_length lines ls told.1)
