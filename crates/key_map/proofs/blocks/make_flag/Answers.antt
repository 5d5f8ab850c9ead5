use Rattle.std.proofs.Common.{◌∙◌, ap}
use Rattle.key_map.specs.Blocks.{but_gone}
use Rattle.key_map.proofs.Gone.{but_gone-told}
use Rattle.key_map.proofs.blocks.make_flag.Goals as goal

pub returns-in_ok-push : goal.returns-in_ok-push
returns-in_ok-push g c =
    ap (λ l. but_gone l c.args.blocks.now) c.in_ok-push.ensures.items ∙ but_gone-told c.args.gone.now.items c.args.blocks.now
