-- What was told of the numbers of the store, from one moment to the next.
use Rattle.std.proofs.Common.{◌≡◌, ℕ, List, [], Option, None}
use Rattle.std.proofs.Common.{refl}
use Rattle.std.specs.List.{AllByRecursion}
use Rattle.list_lemmas.proofs.Each.{all_mapped}
use Rattle.shard_core.specs.Room.{Room}
use Rattle.hall_trait.specs.View.{NextsRise}
use Rattle.session_proto.specs.declared.reply.Reply.{Reply}
use Rattle.trace_session.specs.Served.{Served, TellsOfStore, spent_number}
use Rattle.builders.proofs.Spending.{store_later}

-- what was told of the store holds later
pub tells_later : (a b : Option (List Room)) (served : List Served) → NextsRise a b
    → AllByRecursion (λ (x : Served). TellsOfStore a x.block x.reply) served
    → AllByRecursion (λ (x : Served). TellsOfStore b x.block x.reply) served
tells_later a b served rise = all_mapped (λ (x : Served). TellsOfStore a x.block x.reply)
    (λ (x : Served). TellsOfStore b x.block x.reply)
    (λ x tells p made is. store_later a b p rise (tells p made is)) served

-- a request that made no entry tells nothing of it, nor does a reply that tells no number
pub tells_without : (rooms : Option (List Room)) (r : Reply) → TellsOfStore rooms [] r
tells_without rooms r p made is = absurd (made refl)

pub tells_none : (rooms : Option (List Room)) (block : List ℕ) (r : Reply) → spent_number r ≡ None
    → TellsOfStore rooms block r
tells_none rooms block r none p made is = absurd (cc)
