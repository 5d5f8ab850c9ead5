use Rattle.std.proofs.Common.{rules, not, ◌&&◌}
use Rattle.std.proofs.lemmas.Fn.{filter_same}
use Rattle.crdt_rules.specs.Same.{key_eq}
use Rattle.plain_rules.specs.Plain.{is_in}
use Rattle.plain_rules.proofs.context.clear_values_at.Goals as goal

pub returns : goal.returns
returns g c =
    filter_same _ (λ e. not (key_eq e.0 c.args.key.now && is_in c.args.dependencies.now e.1)) _ (λ x b f' h. search rules) _ _ c.retain.ensures.filtered
