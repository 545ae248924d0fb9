-- The line that is made for a monomial that waits: it has the freedom of a step, and the lines stay sound with it.
use Rattle.std.proofs.Common.{◌≡◌, ℕ, ◌+◌, ◌<◌, List, [], ◌∷◌, ◌++◌, length, get_or, take, set, ap, ◌∙◌, subst, subst₂, arith}
use mathlib.Core.Path.{subst⁻¹}
use mathlib.Core.Logic.{∥∥₁_elim, ∥∥₁_map}
use native.Mathlib.Bridge.{le_prop}
use Rattle.std.proofs.lemmas.List.{length_push, take_more_set}
use Rattle.elimination.specs.Echelons.{Echelon}
use Rattle.elimination.proofs.Echelons.{few_stairs}
use Rattle.fields.specs.Arithmetic.{Arithmetic}
use Rattle.polynomials.specs.Subjects.{SubjectMeaning}
use Rattle.rows.specs.declared.line.Line.{Line}
use Rattle.rows.specs.Lines.{monomial_of}
use Rattle.rows.specs.Sheets.{Waits}
use Rattle.rows.proofs.Pushes.{new_line}
use Rattle.worksheet.specs.Sheets.{Sheet, judged, Fits}
use Rattle.worksheet.specs.Freedoms.{FreeLine}
use Rattle.worksheet.specs.Invariants.{Sound}
use Rattle.worksheet.specs.Steps.{put_down}
use Rattle.worksheet.proofs.Soundness.{more_sound}

-- lines in echelon form stay so with a line more
abbrev pub KeepsEchelon : ℕ → ℕ → List Line → Line → Type 0
KeepsEchelon w q before l = Echelon w q before → Echelon w q (before ++ l ∷ [])

-- by the numbers that the sheet has
pub keeps_fit : (S : SubjectMeaning) (A : Arithmetic) (s : Sheet) → Fits S A s → (before : List Line) → before ≡ judged s → (l : Line) →
    KeepsEchelon S.width A.order before l → KeepsEchelon s.width s.order (judged s) l
keeps_fit S A s F before e l keeps =
    subst (λ b. KeepsEchelon s.width s.order b l) e (subst₂ (λ w q. KeepsEchelon w q before l) F.subject.width F.field keeps)

-- the sheet with a line put down, by its lines
pub put_path : (s : Sheet) (l : Line) (lines : List Line) → lines ≡ set s.lines s.used l →
    record { variables = s.variables; width = s.width; order = s.order; used = s.used + 1; lines = lines } ≡ put_down s l
put_path s l lines e = ap (λ x. record { variables = s.variables; width = s.width; order = s.order; used = s.used + 1; lines = x }) e

module _ (s : Sheet) (sound : ∥ Sound s.variables s.width s.order (judged s) ∥₁) (l : Line)
    (keeps : KeepsEchelon s.width s.order (judged s) l) where
  -- the line stands last
  last : length (judged s) < length (judged s ++ l ∷ [])
  last = omega (arith, length_push (judged s) l)

  -- the freedom of a step
  pub line_free : FreeLine s l
  line_free = record {
    combination = λ j. ∥∥₁_elim sound le_prop
        (λ H. subst (λ (x : Line). get_or x.combination j 0 < s.order) (new_line (judged s) l) ((keeps H.echelon).combinations (length (judged s)) last j));
    image = λ k. ∥∥₁_elim sound le_prop
        (λ H. subst (λ (x : Line). get_or x.image k 0 < s.order) (new_line (judged s) l) ((keeps H.echelon).images (length (judged s)) last k));
    few_stairs = ∥∥₁_elim sound le_prop (λ H. few_stairs s.width s.order (judged s ++ l ∷ []) (keeps H.echelon));
  }

  -- the lines stay sound
  pub written_sound : s.used < length s.lines → Waits s.variables (judged s) (monomial_of l) → (lines : List Line) → lines ≡ set s.lines s.used l →
      ∥ Sound s.variables s.width s.order (take (s.used + 1) lines) ∥₁
  written_sound room waits lines e = subst⁻¹ (λ x. ∥ Sound s.variables s.width s.order x ∥₁)
      (ap (take (s.used + 1)) e ∙ take_more_set s.lines s.used l room)
      (∥∥₁_map sound (more_sound s.variables s.width s.order (judged s) l waits keeps))
