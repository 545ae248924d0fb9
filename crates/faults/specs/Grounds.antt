-- The number, the place and the layer of each refusal. Every contract that refuses reads them here.
use Rattle.std.specs.Prelude.{ℕ}
use Rattle.faults.specs.declared.refusal.Layer.{Layer}
use Rattle.faults.specs.declared.refusal.Layer.TheVariants as layers
use Rattle.faults.specs.declared.refusal.Refusal.{Refusal}
use Rattle.faults.specs.declared.arithmetic.ArithmeticFault.{ArithmeticFault}
use Rattle.faults.specs.declared.arithmetic.ArithmeticFault.TheVariants as arithmetics
use Rattle.faults.specs.declared.subject.SubjectFault.{SubjectFault}
use Rattle.faults.specs.declared.subject.SubjectFault.TheVariants as subjects
use Rattle.faults.specs.declared.worksheet.WorksheetFault.{WorksheetFault}
use Rattle.faults.specs.declared.worksheet.WorksheetFault.TheVariants as worksheets
use Rattle.faults.specs.declared.file.FileFault.{FileFault}
use Rattle.faults.specs.declared.file.FileFault.TheVariants as files
use Rattle.faults.specs.declared.file.RecordFault.{RecordFault}

-- the refusal by a ground's number, at a place, from a layer
abbrev pub at_ground : (ground : ℕ) (place : ℕ) (layer : Layer) → Refusal
at_ground number place layer = record { ground = number; place = place; layer = layer }

-- what a fault of arithmetic answers
abbrev pub of_arithmetic : ArithmeticFault → Refusal
of_arithmetic arithmetics.Unlisted = at_ground 4 0 layers.Arithmetic
of_arithmetic (arithmetics.Weight weight) = at_ground 5 weight layers.Arithmetic

-- what a fault of a subject answers; one of arithmetic answers as it did there
abbrev pub of_subject : SubjectFault → Refusal
of_subject subjects.Variables = at_ground 6 0 layers.Subject
of_subject (subjects.Period axis) = at_ground 7 axis layers.Subject
of_subject subjects.Points = at_ground 7 0 layers.Subject
of_subject subjects.Count = at_ground 9 0 layers.Subject
of_subject (subjects.Code code) = at_ground 10 code layers.Subject
of_subject (subjects.Arithmetic fault) = of_arithmetic fault

-- what a fault of the worksheet's layer answers; one of a subject answers as it did there
abbrev pub of_worksheet : WorksheetFault → Refusal
of_worksheet (worksheets.Code place) = at_ground 10 place layers.Worksheet
of_worksheet worksheets.OtherSetUp = at_ground 11 0 layers.Worksheet
of_worksheet worksheets.Unfinished = at_ground 12 0 layers.Worksheet
of_worksheet worksheets.NoLineLeft = at_ground 13 0 layers.Worksheet
of_worksheet worksheets.LineNumber = at_ground 14 0 layers.Worksheet
of_worksheet (worksheets.Exponent term) = at_ground 15 term layers.Worksheet
of_worksheet worksheets.Length = at_ground 16 0 layers.Worksheet
of_worksheet (worksheets.Subject fault) = of_subject fault

-- what a fault of a file answers; one of a subject answers as it did there
abbrev pub of_file : FileFault → Refusal
of_file files.Length = at_ground 1 0 layers.File
of_file files.Content = at_ground 2 0 layers.File
of_file files.Single = at_ground 3 0 layers.File
of_file files.Cell = at_ground 8 0 layers.File
of_file (files.Subject fault) = of_subject fault

-- what a fault of a file answers with its record: the ground and the layer of the fault, at the record
abbrev pub of_record : RecordFault → Refusal
of_record f = at_ground (of_file f.fault).ground f.record (of_file f.fault).layer
