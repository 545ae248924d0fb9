-- A worksheet of code, as a value.
use Rattle.worksheet.specs.declared.worksheet.Worksheet.{Worksheet}
use Rattle.worksheet.specs.Sheets.{Sheet}

-- the sheet that a worksheet is
abbrev pub sheet : Worksheet → Sheet
sheet w = record { variables = w.variables; width = w.width; order = w.order; used = w.used; lines = w.lent.lines.now }
