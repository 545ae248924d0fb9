use Rattle.std.proofs.Common.{◌≡◌, ℕ, ◌+◌, ap, List, ◌++◌, string_bytes, rules, refl, ◌∙◌}
use Rattle.std.proofs.lemmas.Result.{IfOk-weaker}
use Rattle.show_staircase.specs.declared.marks.Exponents.{Exponents}
use Rattle.show_staircase.specs.declared.marks.Listed.{Listed}
use Rattle.show_staircase.proofs.Counts.{fold_u, fold_v}
use Rattle.show_staircase.specs.Drawings.{up_to, row_down, tens_line, units_line, legend, columns_of, rows_of, drawing_text}
use Rattle.show_staircase.proofs.drawings.drawing.Goals as goal

-- the parts of a drawing, each as it is said
parts : (ls : List Listed) (columns rows : ℕ) (marks tens units : List ℕ) → columns ≡ columns_of ls → rows ≡ rows_of ls →
    marks ≡ up_to (row_down ls columns rows) rows → tens ≡ tens_line columns → units ≡ units_line columns →
    marks ++ (tens ++ (units ++ legend)) ≡ drawing_text ls
parts ls columns rows marks tens units c r m t u = rw (m, t, u, c, r) refl

pub returns : goal.returns
returns c =
    let ls = c.args.listed.now in
    let greatest = c.greatest_exponents-greatest in
    let columns = greatest.result.u + 2 in
    let none : Exponents = record { u = 0; v = 0 } in
    let rows = greatest.result.v + 2 in
    let marks = string_bytes c.in_ok-marks.marks in
    let tens = string_bytes c.in_ok-tens.tens in
    let units = string_bytes c.in_ok-units.units in
    IfOk-weaker c.format.result
    (λ text. string_bytes text ≡ marks ++ (tens ++ (units ++ legend)))
    (λ text. string_bytes text ≡ drawing_text ls)
    (λ text e.
    e ∙ parts ls columns rows marks tens units (ap (λ (most : Exponents). most.u + 2) greatest.ensures ∙ ap (λ n. n + 2) (fold_u none ls))
    (ap (λ (most : Exponents). most.v + 2) greatest.ensures ∙ ap (λ n. n + 2) (fold_v none ls))
    (c.in_ok-marks.ensures (row_down ls columns rows) (λ down below made post. search rules)) c.in_ok-tens.ensures c.in_ok-units.ensures)
    c.format.ensures.ok
