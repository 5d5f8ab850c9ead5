use Rattle.std.proofs.Common.{◌∙◌, [], get_or, set, Bool, true, false, if◌then◌else◌, sym, ap}
use Rattle.std.proofs.lemmas.List.{get_or-set_other}
use Rattle.key_map.proofs.Gone.{length-but_gone, get_or-but_gone}
use Rattle.small_values.proofs.Made.{seen}
use Rattle.key_map.proofs.map.KeyMap.note_gone.Goals as goal

pub returns-clause-count : goal.returns-clause-count
returns-clause-count g c =
    let gone = c.map.inside.gone.items in
    let blocks = c.map.inside.blocks.items in
    rw (c.note.ensures, ← seen ([], []) c.in-Some.ensures.value c.self.view_is, ← c.map.view_is)
    (length-but_gone (set gone c.args.at true) blocks ∙ sym (length-but_gone gone blocks))

pub returns-clause-others : goal.returns-clause-others
returns-clause-others g c =
    let gone = c.map.inside.gone.items in
    let blocks = c.map.inside.blocks.items in
    rw (c.note.ensures, ← seen ([], []) c.in-Some.ensures.value c.self.view_is, ← c.map.view_is)
    (λ m apart.
    get_or-but_gone (set gone c.args.at true) blocks m
    ∙ ap (λ (b : Bool). if b then [] else get_or blocks m []) (get_or-set_other gone c.args.at m true false apart)
    ∙ sym (get_or-but_gone gone blocks m))
