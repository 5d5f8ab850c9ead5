use Rattle.std.proofs.Common.{[], ◌&&◌, sym, ap, ◌∙◌}
use Rattle.op_log.specs.Elements.{inserts_cursor}
use Rattle.op_log.proofs.Cursors.{cursor_known}
use Rattle.op_log.proofs.log.OpLog.knows_cursor.Goals as goal

pub returns-then-covers_elements : goal.returns-then-covers_elements
returns-then-covers_elements c =
    let front = c.args.front.now in
    let log = c.args.self.now.operations in
    let path = c.args.cursor.now.path in
    let key = c.args.cursor.now.key in
    c.inserts_elements.ensures ∙ ap (λ p. inserts_cursor log [] p key) c.as_slice.ensures
    ∙ ap (λ b. b && inserts_cursor log [] path key) c.if-covers_elements.ensures
    ∙ sym (cursor_known front log [] path key)

pub returns-else-covers_elements : goal.returns-else-covers_elements
returns-else-covers_elements c =
    let front = c.args.front.now in
    let log = c.args.self.now.operations in
    let path = c.args.cursor.now.path in
    let key = c.args.cursor.now.key in
    c.if-covers_elements.false
    ∙ ap (λ b. b && inserts_cursor log [] path key) c.if-covers_elements.ensures
    ∙ sym (cursor_known front log [] path key)
