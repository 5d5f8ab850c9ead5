use Rattle.std.proofs.Common.{bytes_eq, sym, ap, subst, ◌∙◌}
use Rattle.list_laws.specs.Sorted.{get_by}
use Rattle.op_log.specs.Front.{PutsEntry}
use Rattle.crdt_rules.proofs.Room.{good_room}
use Rattle.op_log.proofs.Growing.{last_stands, last_within, IsIndex-push}
use Rattle.op_log.proofs.index.Index.push.Goals as goal

pub next_link-link-requires-clause-few : goal.next_link-link-requires-clause-few
next_link-link-requires-clause-few c = (good_room c.args.entries.now c.requires.index.good).operations

pub new-requires : goal.new-requires
new-requires c = (good_room c.args.entries.now c.requires.index.good).operations

pub next_link-link-requires-clause-last : goal.next_link-link-requires-clause-last
next_link-link-requires-clause-last c = last_stands c.requires.index.lasts c.args.name c.put_last-last.result c.put_last-last.ensures.before

pub next_link-link-requires-clause-within : goal.next_link-link-requires-clause-within
next_link-link-requires-clause-within c = last_within c.requires.index.lasts c.args.name c.put_last-last.result c.put_last-last.ensures.before

pub returns-clause-index : goal.returns-clause-index
returns-clause-index c op made fits =
    let lasts = c.args.self.now.lasts.items in
    IsIndex-push c.requires.index op c.put_last-last.result c.next_link-link.result fits
    (c.put_last-last.ensures.before ∙ ap (get_by bytes_eq lasts) (sym made))
    c.next_link-link.ensures.before c.next_link-link.ensures.far c.push_reserved.ensures.items c.put_last-last.ensures.rising
    (subst (λ n. PutsEntry lasts c.put_last-last.new.pairs.items op.id.replica n) c.new.ensures
    (subst (λ n. PutsEntry lasts c.put_last-last.new.pairs.items n c.new.result) (sym made) c.put_last-last.ensures.puts))
