-- What a check of a polynomial against a subject answers.
use Rattle.std.specs.Prelude.{◌≡◌, ℕ, ◌<◌, List, ◌++◌, Ok, Err, codes, decimal, Result}
use Rattle.faults.specs.Places.{FirstAt, NoneAt}
use Rattle.faults.specs.declared.worksheet.WorksheetFault.{WorksheetFault}
use Rattle.faults.specs.declared.worksheet.WorksheetFault.TheVariants.{Code, OtherSetUp, Unfinished, NoLineLeft, LineNumber, Exponent, Length, Subject}
use Rattle.fields.specs.Arithmetic.{Arithmetic}
use Rattle.subjects.specs.declared.checking.Finding.{Finding}
use Rattle.subjects.specs.declared.checking.Finding.TheVariants.{Holds, Fails}
use Rattle.polynomials.specs.declared.term.Term.{Term}
use Rattle.polynomials.specs.Polynomials.{Poly}
use Rattle.polynomials.specs.Subjects.{SubjectMeaning, image_of, Annihilates}
use Rattle.polynomials.specs.Terms.{poly, TermCodeFault, ExponentFault, TermsAdmitted}

-- THE FREEDOM OF A CHECK: which position it names, among those where the polynomial's image is not zero
pub record FailingPosition (S : SubjectMeaning) (A : Arithmetic) (p : Poly) (k : ℕ) : Type 0 where
  pub within : k < S.width
  pub fails : image_of S A p k ≡ 0 → ⊥

-- refused by a term's code, then by a term's exponents; else the polynomial annihilates, or fails at the position named
abbrev pub Checked : SubjectMeaning → Arithmetic → List Term → Result Finding WorksheetFault → Type 0
Checked S A ts (Err (Code i)) = FirstAt (TermCodeFault A.order ts) i
Checked S A ts (Err OtherSetUp) = ⊥
Checked S A ts (Err Unfinished) = ⊥
Checked S A ts (Err NoLineLeft) = ⊥
Checked S A ts (Err LineNumber) = ⊥
Checked S A ts (Err (Exponent i)) = NoneAt (TermCodeFault A.order ts) × FirstAt (ExponentFault S.variables ts) i
Checked S A ts (Err Length) = ⊥
Checked S A ts (Err (Subject fault)) = ⊥
Checked S A ts (Ok Holds) = TermsAdmitted S.variables A.order ts × Annihilates S A (poly ts)
Checked S A ts (Ok (Fails k)) = TermsAdmitted S.variables A.order ts × FailingPosition S A (poly ts) k

-- the words in which a finding is printed
abbrev pub finding_text : Finding → List ℕ
finding_text Holds = codes "holds everywhere"
finding_text (Fails k) = codes "fails at position " ++ decimal k
