use Rattle.std.proofs.Common.{◌≡◌, ◌++◌, ◌∷◌, [], List, ap, sym, ◌∙◌, arith, length, length-append, nat_eq}
use Rattle.std.specs.Prelude.{if◌then◌else◌, Bool}
use Rattle.std.specs.List.{list_any}
use Rattle.indexmap.proofs.CallerLemmas.{insert_entry-new}
use Rattle.indexmap.proofs.RemoveLemmas.{popped_last}
use Rattle.list_lemmas.proofs.Booleans.{false_by_not, true_by_not}
use Rattle.shard_core.specs.declared.hashed_key.HashedKey.{HashedKey}
use Rattle.shard_core.specs.SameKey.{same_key}
use Rattle.shard_core.specs.Listed.{listed}
use Rattle.shard_core.proofs.Listed.{listed-push}
use Rattle.shard_core.proofs.Places.{lacks_seen, there_seen, fresh_count}
use Rattle.shard_core.proofs.nodes.Nodes.find_or_add.Goals as goal

pub returns-in-Err : goal.returns-in-Err
returns-in-Err c = (
  lacks_seen c.self.inside.keys.keys c.self.inside.counts.entries c.args.self.now c.args.key.key
      c.self.view_is
      c.self.invariant.0 c.in-Err.ensures.absent,
  ap (λ (ks : List HashedKey). listed ks c.self.inside.counts.entries) c.in-Err.ensures.err ∙ c.self.view_is,
)

-- the keys after one was found or added
one_more : (ks : List HashedKey) (k : HashedKey) (had : Bool)
    → list_any (λ (h : HashedKey). same_key k.key h.key) ks ≡ had
    → (if list_any (λ (h : HashedKey). same_key k.key h.key) ks then ks else ks ++ k ∷ [])
    ≡ (if had then ks else ks ++ k ∷ [])
one_more ks k had is = ap (λ (b : Bool). if b then ks else ks ++ k ∷ []) is

pub returns-then-not-new : goal.returns-then-not-new
returns-then-not-new c =
    let had = true_by_not c.in-Ok.known.1 _ c.in-Ok.ensures.added c.if-not-new.true in
    let kept = c.in-Ok.ensures.keys ∙ one_more c.self.inside.keys.keys c.args.key _ had in
    let stored = c.in-Ok.ensures.stored in
    let at = there_seen c.self.inside.keys.keys c.insert_full.new.self.keys c.self.inside.counts.entries
    c.args.self.now c.args.key stored.0 c.in-Ok.known.0 c.self.view_is c.self.invariant.0 kept
    c.in-Ok.ensures.within stored.1 stored.2 in (
      ap (λ (ks : List HashedKey). listed ks c.self.inside.counts.entries) kept ∙ c.self.view_is,
      at.0,
      at.1,
      at.2,
    )

pub invariant_of-self-in-Ok-insert : goal.invariant_of-self-in-Ok-insert
invariant_of-self-in-Ok-insert c =
    let absent = false_by_not c.in-Ok.known.1 _ c.in-Ok.ensures.added c.if-not-new.false in
    let keys = c.in-Ok.ensures.keys ∙ one_more c.self.inside.keys.keys c.args.key _ absent in
    let counts = c.in-Ok-insert.ensures.entries ∙ insert_entry-new nat_eq c.self.inside.counts c.args.number 1
    (fresh_count c.self.inside.keys.keys c.self.inside.counts.entries c.args.self.now c.args.number
    c.self.view_is
    c.self.invariant.0 c.requires) in (
      omega (
        arith,
        ap length keys,
        ap length counts,
        c.self.invariant.0,
        length-append c.self.inside.keys.keys (c.args.key ∷ []),
        length-append c.self.inside.counts.entries ((c.args.number, 1) ∷ []),
      ),
      c.in-Ok-insert.ensures.unique,
    )

pub returns-in-Ok-insert : goal.returns-in-Ok-insert
returns-in-Ok-insert c =
    let absent = false_by_not c.in-Ok.known.1 _ c.in-Ok.ensures.added c.if-not-new.false in
    let keys = c.in-Ok.ensures.keys ∙ one_more c.self.inside.keys.keys c.args.key _ absent in
    let counts = c.in-Ok-insert.ensures.entries ∙ insert_entry-new nat_eq c.self.inside.counts c.args.number 1
    (fresh_count c.self.inside.keys.keys c.self.inside.counts.entries c.args.self.now c.args.number
    c.self.view_is
    c.self.invariant.0 c.requires) in (
      lacks_seen c.self.inside.keys.keys c.self.inside.counts.entries c.args.self.now c.args.key.key
          c.self.view_is
          c.self.invariant.0 absent,
      (λ i. listed (keys i) (counts i)) ∙ listed-push c.self.inside.keys.keys c.self.inside.counts.entries
          c.args.key (c.args.number, 1) c.self.invariant.0
          ∙ ap (λ v. v ++ (c.args.number, record { key = c.args.key.key; count = 1 }) ∷ []) c.self.view_is,
    )

pub returns-in-Err-insert : goal.returns-in-Err-insert
returns-in-Err-insert c =
    let absent = false_by_not c.in-Ok.known.1 _ c.in-Ok.ensures.added c.if-not-new.false in
    let keys = c.in-Ok.ensures.keys ∙ one_more c.self.inside.keys.keys c.args.key _ absent in
    let long = length-append c.self.inside.keys.keys (c.args.key ∷ []) in
    let back = popped_last c.self.inside.keys.keys c.pop.new.self.keys c.args.key c.pop.result
    (sym keys ∙ c.pop.ensures.keys)
    (c.pop.ensures.found.1 (omega (arith, ap length keys, long))) in (
      lacks_seen c.self.inside.keys.keys c.self.inside.counts.entries c.args.self.now c.args.key.key
          c.self.view_is
          c.self.invariant.0 absent,
      (λ i. listed (back.1 i) (c.in-Err-insert.ensures.err i)) ∙ c.self.view_is,
    )
