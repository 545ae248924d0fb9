-- What is misread of some lines, and that it is told.
use Rattle.std.proofs.Common.{◌≡◌, ℕ, true, false, arith, ◌+◌, ◌<◌, List, [], ◌∷◌, ◌++◌, length, codes, Bor, Some, None, sym, ap, ◌∙◌}
use mathlib.Core.List.{append_assoc}
use mathlib.Core.Path.{subst}
use Rattle.std.specs.declared.str.Lines.{Lines}
use Rattle.std.specs.Str.Iter.{lines_steps}
use Rattle.show_staircase.specs.declared.grounds.Ground.{Ground}
use Rattle.show_staircase.specs.declared.grounds.Ground.TheVariants as grounds
use Rattle.show_staircase.specs.declared.grounds.Misread.{Misread}
use Rattle.show_staircase.specs.declared.grounds.ReadError.{ReadError}
use Rattle.show_staircase.specs.declared.grounds.ReadError.TheVariants as errors
use Rattle.show_staircase.specs.declared.marks.Listed.{Listed}
use Rattle.show_staircase.specs.Misreadings.{Unless, MisreadsBelow, no_monomial, ended, unlisted, unended, Misreads, misread_below}
use Rattle.show_staircase.specs.Readings.{Counting, Lists, ListsEach, ListsUpToScore, NoMonomial}
use Rattle.show_staircase.proofs.Lines.{UpTo, scored, Sofar, around, all_read, each, each_length}

-- an error that holds what was misread, at its line and for its ground, tells it
pub tells : (Told : Misread → Type 0) (m : Misread) (e : ReadError) (line : ℕ) (ground : Ground) → e ≡ errors.Misread m →
    m.line ≡ line → m.ground ≡ ground → Told (record { line = line; ground = ground }) → Unless Told e
tells Told m e line ground made at why told = rw (made, at, why) told

-- what is misread at a line, told by the number of monomials before it
pub counted : (texts each : List (List ℕ)) (ls : List Listed) (more : ℕ) (ground : Ground) → ListsEach each ls →
    MisreadsBelow texts (record { line = length each + more; ground = ground }) → MisreadsBelow texts (record { line = length ls + more; ground = ground })
counted texts each ls more ground told misread =
    subst (λ n. MisreadsBelow texts (record { line = n + more; ground = ground })) (each_length each ls told) misread

ends_after : {texts seen : List (List ℕ)} {ls : List Listed} → UpTo seen ls true → (next : List ℕ) (rest : List (List ℕ)) →
    texts ≡ seen ++ next ∷ rest → MisreadsBelow texts (record { line = length ls + 3; ground = grounds.Ended })
ends_after {texts} {seen} {ls} (scored each score same told counting) next rest whole =
    counted texts each ls 3 grounds.Ended told
    (ended each ls score next rest
    (whole ∙ ap (λ front. front ++ next ∷ rest) same ∙ append_assoc each (score ∷ []) (next ∷ rest)) told counting)

-- a line after the score
pub after_score : {texts : List (List ℕ)} {rest : Lines} {ls : List Listed} → (so_far : Sofar texts rest ls true) →
    (after : Lines) (line : Bor (List ℕ)) → lines_steps rest (Some line) after →
    MisreadsBelow texts (record { line = length ls + 3; ground = grounds.Ended })
after_score so_far after line step = let next = around so_far after line step in ends_after so_far.told line.now next.0 next.1

-- a line before the score that lists no monomial
pub at_no_monomial : {texts : List (List ℕ)} {rest : Lines} {ls : List Listed} → (so_far : Sofar texts rest ls false) →
    (after : Lines) (line : Bor (List ℕ)) → lines_steps rest (Some line) after → (Counting (codes "score") line.now → ⊥) → (ground : Ground) → NoMonomial ground →
    ((l : Listed) → Lists line.now l → ⊥) → MisreadsBelow texts (record { line = length ls + 2; ground = ground })
at_no_monomial {texts} {ls = ls} so_far after line step no_score ground reason never =
    let next = around so_far after line step in
    let told = each so_far.told in
    counted texts so_far.seen ls 2 ground told (no_monomial so_far.seen ls line.now next.0 ground next.1 told no_score reason never)

-- no score
pub without_score : {texts : List (List ℕ)} {rest : Lines} {ls : List Listed} → (so_far : Sofar texts rest ls false) →
    (after : Lines) → lines_steps rest None after → MisreadsBelow texts (record { line = length ls + 1; ground = grounds.Unended })
without_score {texts} {ls = ls} so_far after step =
    let told = subst (λ lines. ListsEach lines ls) (sym (all_read so_far after step)) (each so_far.told) in
    counted texts texts ls 1 grounds.Unended told (unended ls told)

score_alone : {texts seen : List (List ℕ)} {ls : List Listed} → UpTo seen ls true → texts ≡ seen → length ls ≡ 0 →
    MisreadsBelow texts (record { line = 2; ground = grounds.Unlisted })
score_alone (scored [] score same told counting) whole none = unlisted score (whole ∙ same) counting
score_alone {ls = ls} (scored (line ∷ each) score same told counting) whole none = absurd (omega (arith, none, each_length (line ∷ each) ls told))

-- a score with no monomial before it
pub with_none : {texts : List (List ℕ)} {rest : Lines} {ls : List Listed} → (so_far : Sofar texts rest ls true) →
    (after : Lines) → lines_steps rest None after → length ls ≡ 0 → MisreadsBelow texts (record { line = 2; ground = grounds.Unlisted })
with_none so_far after step none = score_alone so_far.told (all_read so_far after step) none

up_to_score : {texts seen : List (List ℕ)} {ls : List Listed} → UpTo seen ls true → texts ≡ seen → 0 < length ls → ListsUpToScore texts ls
up_to_score (scored each score same told counting) whole some = (each, score, whole ∙ same, told, some, counting)

-- monomials up to the score
pub with_some : {texts : List (List ℕ)} {rest : Lines} {ls : List Listed} → (so_far : Sofar texts rest ls true) →
    (after : Lines) → lines_steps rest None after → 0 < length ls → ListsUpToScore texts ls
with_some so_far after step some = up_to_score so_far.told (all_read so_far after step) some

-- what is misread below the heading is misread of the whole
pub below_misread : (lines below : List (List ℕ)) (heading : List ℕ) → lines ≡ heading ∷ below → Counting (codes "judged") heading →
    (e : ReadError) → Unless (MisreadsBelow below) e → Unless (Misreads lines) e
below_misread lines below heading made is_heading errors.OutOfMemory told = tt
below_misread lines below heading made is_heading (errors.Misread m) told = misread_below heading below m made is_heading told
