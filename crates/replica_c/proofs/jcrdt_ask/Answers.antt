use Rattle.std.proofs.Common.{◌≡◌, Option, Some, option_map, sym, ap, ◌∙◌, subst}
use Rattle.std.specs.Global.{Global}
use Rattle.replica_c.specs.Calls.{CallsAsk}
use Rattle.replica_c.specs.Serving.{TellsLine}
use Rattle.replica_c.specs.declared.handle.Handle.{Handle}
use Rattle.replica_c.specs.declared.open.OpenReplica.{OpenReplica}
use Rattle.replica_c.specs.declared.loose.LooseBox.{LooseBox}
use Rattle.replica_c.proofs.jcrdt_ask.Goals as goal

pub returns-in-Some : goal.returns-in-Some
returns-in-Some c =
    let line = c.args.line.now in
    let then = c.answered-count.new.kept in
    let (told, tells, count, filled) = c.answered-count.ensures in
    let was : c.args.replica.now.value ≡ Some c.in-Some.parts.value =
    sym (ap (λ (h : Handle). h.value) c.replace.ensures.value)
    ∙ sym (subst (λ (r : Option (LooseBox OpenReplica Global)). option_map (λ (p : LooseBox OpenReplica Global). p.value) r ≡ c.replace.result.value) c.in-Some.is c.into_parts.ensures) in
    let same : c.deref_mut.result.now ≡ c.in-Some.parts.value = c.deref_mut.ensures.value ∙ c.into_box-kept.ensures in
    record {
      answers =
          subst (λ (held : Option OpenReplica). CallsAsk held line c.args.out.now c.answered-count.result c.of-in-Some.result.value c.answered-count.new.out) (sym was)
          (record {
            then = then;
            told = told;
            answers = subst (λ (o : OpenReplica). TellsLine o.replica line told then.replica then.text.items) same (tells line c.read_ask-asked.ensures);
            after_is = c.of-in-Some.ensures ∙ ap Some c.of.ensures;
            count = count;
            given = filled;
          });
    }
