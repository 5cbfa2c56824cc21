use Rattle.std.proofs.Common.{◌≡◌, length, ◌∙◌, arith}
use Rattle.sheets.specs.Verdicts.{sheet_line}
use Rattle.sheets.proofs.Reading.{read_line}
use Rattle.sheets.proofs.line.line_of.Goals as goal

pub returns-clause-line : goal.returns-clause-line
returns-clause-line c =
    let text = c.as_mut_slice.result.now in
    let long : length text ≡ 16387 = omega (arith, c.as_mut_slice.ensures.len, c.in_ok-line.ensures.len) in
    let ok = c.judge.ensures.fits (omega (arith, long)) in
    c.truncate.ensures.items
    ∙ read_line (sheet_line c.args.sheet.now) text c.judge.result c.judge.new.text _ c.unwrap_or-length.result c.in_ok-line.line.len
    c.judge.ensures.line ok c.unwrap_or-length.ensures (omega (arith, long, c.in_ok-line.ensures.len))
