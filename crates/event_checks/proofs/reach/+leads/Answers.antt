use Rattle.std.proofs.Common.{◌∙◌, arith, get_or, refl, subst, sym, true≢false}
use Rattle.std.proofs.lemmas.List.{take_all}
use Rattle.std.proofs.lemmas.List.Elements.{All-more, Contains-get_or}
use Rattle.node_key.specs.Leads.{Leads, here}
use Rattle.node_key.specs.declared.key.Kid.{Kid}
use Rattle.store_laws.specs.Store.{key_in, kids_in}
use Rattle.event_checks.proofs.LeadsByKeys.{NoneLeads, kid_is_lower, leads_by_kid, leads_nowhere}
use Rattle.event_checks.proofs.reach.+leads.Goals as goal

abbrev none : Kid
none = record { gap = 0; span = 0; node = 0 }

pub returns-then-from-target : goal.returns-then-from-target
returns-then-from-target t c = (
  λ _. subst (Leads (key_in c.args.rooms.now) c.args.from) c.if-from-target.true here,
  λ _. refl,
)

pub leads-requires : goal.leads-requires
leads-requires t c =
    let kids = kids_in c.key-own.result in
    let under = kid_is_lower c.args.rooms.now c.args.from c.key-own.result
    (get_or kids c.loop-kid.kid-index none) c.requires.canonic c.key-own.ensures
    (Contains-get_or kids c.loop-kid.kid-index none c.loop-kid-test.true) in
    (omega (arith, under.lower, c.decreases), (c.requires.canonic, under.stored))

pub returns-then-leads : goal.returns-then-leads
returns-then-leads t c =
    let kids = kids_in c.key-own.result in (
      λ _. leads_by_kid (key_in c.args.rooms.now) c.args.from c.key-own.result
          (get_or kids c.loop-kid.kid-index none) c.args.target c.key-own.ensures
          (Contains-get_or kids c.loop-kid.kid-index none c.loop-kid-test.true)
          (c.leads.ensures.0 c.if-leads.true),
      λ _. refl,
    )

pub loop-kid-preserved : goal.loop-kid-preserved
loop-kid-preserved t c =
    All-more (λ (k : Kid). ¬ Leads (key_in c.args.rooms.now) k.node c.args.target) (kids_in c.key-own.result)
    c.loop-kid.kid-index none c.loop-kid-test.true c.loop-kid.invariant
    (λ down. true≢false (sym (c.leads.ensures.1 down) ∙ c.if-leads.false))

pub returns : goal.returns
returns t c =
    let all = subst (NoneLeads (key_in c.args.rooms.now) c.args.target)
    (take_all c.loop-kid.kid-index (kids_in c.key-own.result) c.loop-kid-test.false) c.loop-kid.invariant in (
      λ is. absurd (true≢false (sym is)),
      λ down. absurd (leads_nowhere (key_in c.args.rooms.now) c.args.from c.key-own.result c.args.target
          c.key-own.ensures c.if-from-target.false all down),
    )
