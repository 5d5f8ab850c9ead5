use Rattle.std.proofs.Common.{◌≡◌, [], sym, ap, ◌∙◌}
use Rattle.op_core.specs.Shape.{key_of}
use Rattle.op_log.specs.Elements.{inserts_cursor}
use Rattle.op_log.proofs.Cursors.{inserts_last, last_decides, no_element}
use Rattle.op_log.proofs.log.OpLog.+inserts_elements.Goals as goal

pub returns-in-Element : goal.returns-in-Element
returns-in-Element t c =
    let log = c.args.self.now.operations in
    let path = c.args.path.now in
    c.is_element.ensures ∙ last_decides log path c.in-Element.id c.keeps_good.ensures ∙ ap (inserts_cursor log [] path) (sym c.in-Element.is)

pub returns-in-Some : goal.returns-in-Some
returns-in-Some t c =
    let log = c.args.self.now.operations in
    let key = c.args.key.now in
    let before = c.in-Some.before.now in
    let last = c.in-Some.last.now in
    let none = no_element log key (λ i is. c.in_default.not-Element i is) in
    let end : c.key.result.now ≡ key_of last = c.key.ensures in
    c.inserts_elements.ensures ∙ ap (inserts_cursor log [] before) end
    ∙ sym (inserts_last log [] before last key none)
    ∙ ap (λ p. inserts_cursor log [] p key) (sym c.in-Some.ensures.cases.0)
