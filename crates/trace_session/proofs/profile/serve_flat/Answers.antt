use Rattle.std.proofs.Common.{◌≡◌, ◌⊎◌, ℕ, [], take, ap, ◌∙◌, subst}
use Rattle.hall_history.specs.declared.asks.AskIds.TheVariants.{One}
use Rattle.hall_trait.specs.Answers.{Asks, after_ask}
use Rattle.hall_trait.specs.Pin.{pin_view}
use Rattle.hall_history.specs.Asks.{first_id}
use Rattle.hall_trait.specs.View.{GoesOn, with_account}
use Rattle.hall_history.specs.Seat.{Seat, Removes, MakesNoEntry}
use Rattle.hall_trait.specs.declared.answers.AskAnswer.{AskAnswer}
use Rattle.session_proto.specs.declared.reply.No.TheVariants as no
use Rattle.session_proto.specs.declared.reply.Reply.TheVariants as reply
use Rattle.trace_session.proofs.Asking.{seen_profile, Serves-unknown, Serves-no_place, Serves-seen}
use Rattle.trace_session.proofs.GoingOn.{serving_on, serving_walked, serving_then, serving_worked}
use Rattle.trace_session.proofs.profile.serve_flat.Goals as goal
use Rattle.trace_session.proofs.profile.serve_flat.Goals.{After-ask}
use Rattle.trace_session.proofs.profile.serve_flat.Given.{Over}

-- what the call to ask answered, and what its calls came to then
asked : (g : Over) (c : After-ask g) (answer : AskAnswer) → c.ask.result ≡ answer
    → Asks (g.H.Hall.view c.args.hall.now).alone (g.H.Hall.view c.args.hall.now).seat
    (g.H.Hall.view c.ask.new.self).seat (One c.args.id) answer
    × GoesOn (with_account (after_ask answer) (g.H.Hall.view c.args.hall.now)) (g.H.Hall.view c.ask.new.self)
asked g c answer is =
    let old = g.H.Hall.view c.args.hall.now in
    let new = g.H.Hall.view c.ask.new.self in
    subst (λ (x : AskAnswer). Asks old.alone old.seat new.seat (One c.args.id) x
    × GoesOn (with_account (after_ask x) old) new) is (c.ask.ensures.answer, c.ask.ensures.rest)

pub returns-in-Pinned : goal.returns-in-Pinned
returns-in-Pinned g c =
    let old = g.H.Hall.view c.args.hall.now in
    let mid = g.H.Hall.view c.ask.new.self in
    let read = g.H.Hall.view c.pinned_profile-reply.new.hall in
    let new = g.H.Hall.view c.unpin.new.self in
    let pin = c.in-Pinned.pin in
    let r = c.pinned_profile-reply.result in
    let told = asked g (goal.at.returns-in-Pinned g c).After-ask _ c.in-Pinned.is in
    let same = c.pinned_profile-reply.ensures.rest.seat in
    let gone = subst (λ (s : Seat). Removes s.pins new.seat.pins (pin_view pin)) same c.unpin.ensures.gone in
    let none = subst (λ (s : Seat). MakesNoEntry s new.seat) same c.unpin.ensures.entries in
    let seen = subst (λ (i : ℕ). (r ≡ seen_profile (take pin.place mid.seat.seen) pin.place i c.args.a
    c.args.b) ⊎ (r ≡ reply.No no.Memory)) (ap first_id told.0.same_ids) c.pinned_profile-reply.ensures.reply
    in
    Serves-seen old new mid.seat c.args.id c.args.a c.args.b pin r c.requires.rest told.0 gone
    (c.unpin.ensures.passes ∙ ap (λ (s : Seat). s.passes) same)
    (c.unpin.ensures.stakes ∙ ap (λ (s : Seat). s.stakes) same) none
    (serving_then old mid new [] [] (serving_worked old mid 1 told.1)
    (serving_then mid read new [] [] (serving_walked mid read c.pinned_profile-reply.ensures.rest)
    (serving_on read new c.unpin.ensures.rest))) seen

pub returns-in-Unknown : goal.returns-in-Unknown
returns-in-Unknown g c =
    let told = asked g (goal.at.returns-in-Unknown g c).After-ask _ c.in-Unknown.is in
    Serves-unknown (g.H.Hall.view c.args.hall.now) (g.H.Hall.view c.ask.new.self) c.args.id c.args.a
    c.args.b c.in-Unknown.unknown _ c.in-Unknown.place c.requires.rest told.0 told.1

pub returns-in-Spent : goal.returns-in-Spent
returns-in-Spent g c =
    let told = asked g (goal.at.returns-in-Spent g c).After-ask _ c.in-Spent.is in
    Serves-no_place (g.H.Hall.view c.args.hall.now) (g.H.Hall.view c.ask.new.self) c.args.id c.args.a
    c.args.b c.in-Spent.n c.requires.rest told.0 told.1
