use Rattle.std.proofs.Common.{[], ◌∷◌, codes, arith}
use Rattle.lines.specs.Lines.{words}
use Rattle.lines.proofs.Decimals.{words_long, two_short}
use Rattle.lines.proofs.Fitting.{fitting}
use Rattle.lines.proofs.write_refusal.Goals as goal

pub returns-clause-fits : goal.returns-clause-fits
returns-clause-fits c h =
    let a = c.from.result in
    let b = c.detail.result in
    fitting (words (codes "no") (a ∷ b ∷ [])) c.args.text.now c.write_words.result c.write_words.new.text c.write_words.ensures
    (omega (arith, h, words_long (codes "no") (a ∷ b ∷ []), two_short a b (omega (arith, c.from.type_inv)) (omega (arith, c.detail.type_inv))))
