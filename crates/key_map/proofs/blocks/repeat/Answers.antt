use Rattle.std.proofs.Common.{◌<◌, ◌+◌, ◌∙◌, length, insert, false, ap, arith}
use Rattle.std.proofs.lemmas.List.{get_or_default}
use Rattle.key_map.proofs.Gone.{repeated_past, repeated_inside}
use Rattle.key_map.proofs.blocks.repeat.Goals as goal

pub returns-then-at-len : goal.returns-then-at-len
returns-then-at-len c =
    repeated_past c.args.gone.now.items c.args.at (omega (arith, c.if-at-len.true, c.len.ensures, c.args.gone.now.ok.0))

pub returns : goal.returns
returns c =
    let gone = c.args.gone.now.items in
    let within : c.args.at < length gone = omega (arith, c.if-at-len.false, c.len.ensures, c.args.gone.now.ok.0) in
    c.in-Ok.ensures.items
    ∙ ap (insert gone (c.args.at + 1)) (c.index-is.ensures ∙ get_or_default gone c.args.at c.index-is.result.now false within)
    ∙ repeated_inside gone c.args.at within
