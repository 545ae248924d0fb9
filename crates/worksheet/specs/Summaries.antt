-- What a summary says of a sheet.
use Rattle.std.specs.Prelude.{◌≡◌, length, Decides}
use Rattle.rows.specs.Lines.{stairs_of, relations_of}
use Rattle.worksheet.specs.declared.answers.Summary.{Summary}
use Rattle.worksheet.specs.Sheets.{Sheet, judged, Done}

-- how many lines are judged, how many of them are stairs and relations, and whether the sheet is finished
pub record Summarizes (s : Sheet) (r : Summary) : Type 0 where
  pub lines : r.judged ≡ s.used
  pub stairs : r.stairs ≡ length (stairs_of (judged s))
  pub relations : r.relations ≡ length (relations_of (judged s))
  pub finished : Decides r.finished (Done s)
