-- A request that a session served: the places of its own entries, what these are, and its reply.
use Rattle.std.specs.Prelude.{◌≡◌, ◌≢◌, ℕ, ◌+◌, ◌≤◌, ◌<◌, ◌⊎◌, Bool, List, [], ◌∷◌, ◌++◌, length, take, map}
use Rattle.std.specs.Prelude.{flat_map, filter_map, Option, None, Some}
use Rattle.std.specs.Bool.{OnTrue}
use Rattle.trace_base.specs.declared.limits.TheConstants.{MAX_OPEN_TRACES}
use Rattle.trace_base.specs.declared.stream.TrackStream.{TrackStream}
use Rattle.trace_base.specs.declared.text.TraceText.{TraceText}
use Rattle.hall_trait.specs.Answers.{HasRoom, LeavesNoRoom, places_taken, places_of_load}
use Rattle.hall_history.specs.History.{Entry, Opened, Published, Sealed, Dropped, Asked, open_ids}
use Rattle.hall_history.specs.History.{published_tree}
use Rattle.shard_core.specs.Room.{Room}
use Rattle.builders.specs.Spending.{IsStoreSpent}
use Rattle.session_proto.specs.Reply.{reply_text}
use Rattle.session_proto.specs.declared.reply.No.TheVariants as no
use Rattle.session_proto.specs.declared.reply.Reply.{Reply}
use Rattle.session_proto.specs.declared.reply.Reply.TheVariants as reply
use Rattle.session_proto.specs.declared.request.Request.TheVariants.{Flat, Quit}
use Rattle.session_proto.specs.declared.request.Sel.TheVariants.{All}
use Rattle.paje_lines.specs.Text.{info_of_text}
use Rattle.paje_reader.specs.TextSaid.{Says, text_refusal}
use Rattle.paje_reader.specs.Why.{word_of}
use Rattle.paje_reader.specs.declared.read_fault.ReadRefusal.{ReadRefusal}
use Rattle.request_reader.specs.Requests.{WholeRequest, Line, Load, Large, Unreadable}
use Rattle.trace_session.specs.Replies.{entry_at, opened_reply, flat_reply}

-- the request, how many entries the seat had seen when it came, its block, which is the places of its
-- entries, and its reply
pub record Served : Type 0 where
  pub request : WholeRequest
  pub before : ℕ
  pub block : List ℕ
  pub reply : Reply

-- the entries that publish the trees of streams as the tracks from this number on
abbrev pub published_from : ℕ → ℕ → List TrackStream → List Entry
published_from id track [] = []
published_from id track (s ∷ ss) = Published id track (published_tree s) ∷ published_from id (track + 1) ss

-- the entries of a trace that was opened and sealed
abbrev pub load_entries : ℕ → TraceText → List Entry
load_entries id t = Opened id (info_of_text t) ∷ published_from id 0 t.tracks ++ Sealed id ∷ []

-- those of a load that was given up behind n tracks
abbrev pub dropped_entries : ℕ → TraceText → ℕ → List Entry
dropped_entries id t n = Opened id (info_of_text t) ∷ published_from id 0 (take n t.tracks) ++ Dropped id
    ∷ []

-- the block has these entries at its places
abbrev pub AreAt : List Entry → List ℕ → List Entry → Type 0
AreAt history block entries = map (entry_at history) block ≡ map Some entries

-- the places rise, from above n on, and are at most m
abbrev pub Rise : ℕ → List ℕ → ℕ → Type 0
Rise n [] m = n ≤ m
Rise n (k ∷ block) m = (n < k) × Rise k block m

-- the last place of a block, 0 where it has none
abbrev pub last_place : List ℕ → ℕ
last_place [] = 0
last_place (k ∷ []) = k
last_place (k ∷ l ∷ block) = last_place (l ∷ block)

-- Where a request stands: whether its seat is alone in its hall, what the seat had seen when the request
-- came, the place of the request, which is the last of its block, and what the seat had seen at that place.
pub record Standing : Type 0 where
  pub alone : Bool
  pub before : List Entry
  pub place : ℕ
  pub seen : List Entry

-- where a request stands that came after so many entries of the history, and has this block
abbrev pub standing : Bool → List Entry → ℕ → List ℕ → Standing
standing alone history before block = record {
  alone = alone;
  before = take before history;
  place = last_place block;
  seen = take (last_place block) history;
}

-- where the seat is alone, so many more places fit behind what it had seen
abbrev pub HasPlaces : Standing → ℕ → Type 0
HasPlaces s n = OnTrue s.alone (HasRoom s.before n)

-- n more places don't fit behind p others; where the seat is alone, p is how many are taken or promised in
-- what it had seen
abbrev pub IsUsedUp : Standing → ℕ → ℕ → Type 0
IsUsedUp s n p = LeavesNoRoom n p × OnTrue s.alone (p ≡ places_taken s.before)

-- The table of blocks: a request, its reply, the entries of its block, and what holds then.
abbrev pub IsAnswered : Standing → WholeRequest → Reply → List Entry → Type 0
-- the trace of a text is opened, published and sealed
IsAnswered s (Load text) (reply.Put id tracks functions messages place) entries =
    (t : TraceText) × Says text t × (entries ≡ load_entries id t)
    × (reply.Put id tracks functions messages place ≡ opened_reply id t s.place)
    × HasPlaces s (places_of_load (info_of_text t))
-- or the most traces are open
IsAnswered s (Load text) (reply.No (no.Full place)) entries =
    (t : TraceText) × Says text t × (entries ≡ Asked ∷ []) × (place ≡ s.place)
    × (length (open_ids s.seen) ≡ MAX_OPEN_TRACES) × HasPlaces s (places_of_load (info_of_text t))
-- or the places are used up, or a number of the store is, and what was begun was given up
IsAnswered s (Load text) (reply.No (no.Spent p)) entries =
    (t : TraceText) × Says text t
    × (((entries ≡ []) × IsUsedUp s (places_of_load (info_of_text t)) p)
    ⊎ ((id n : ℕ) × (entries ≡ dropped_entries id t n)))
-- or there was no memory, and what was begun was given up
IsAnswered s (Load text) (reply.No no.Memory) entries =
    (entries ≡ []) ⊎ ((id n : ℕ) × (t : TraceText) × Says text t
    × (entries ≡ dropped_entries id t n))
-- a text of which a line is refused says no trace
IsAnswered s (Load text) (reply.No (no.Text line word)) entries =
    (refusal : ReadRefusal) × (text_refusal text ≡ Some refusal) × (line ≡ refusal.line)
    × (word.now ≡ word_of refusal.why) × (entries ≡ [])
-- a large text isn't looked at
IsAnswered s Large (reply.No no.Large) entries = entries ≡ []
-- a profile over all tracks asks, and so does one of a trace that isn't open
IsAnswered s (Line (Flat id All a b)) (reply.Flat over bare rows place) entries =
    (entries ≡ Asked ∷ []) × (reply.Flat over bare rows place ≡ flat_reply s.seen s.place id a b)
    × HasPlaces s 1
IsAnswered s (Line (Flat id All a b)) (reply.No (no.Unknown other place)) entries =
    (entries ≡ Asked ∷ []) × (reply.No (no.Unknown other place) ≡ flat_reply s.seen s.place id a b)
    × HasPlaces s 1
-- or no place is left, or there was no memory
IsAnswered s (Line (Flat id All a b)) (reply.No (no.Spent p)) entries = (entries ≡ []) × IsUsedUp s 1 p
IsAnswered s (Line (Flat id All a b)) (reply.No no.Memory) entries = (entries ≡ []) ⊎ (entries ≡ Asked ∷ [])
-- QUIT and a line that isn't read need nothing
IsAnswered s (Line Quit) reply.Quit entries = entries ≡ []
IsAnswered s Unreadable (reply.No no.Grammar) entries = entries ≡ []
-- there is no other reply
IsAnswered s request r entries = ⊥

-- the request was served, in this history
abbrev pub IsServed : Bool → List Entry → Served → Type 0
IsServed alone history x = (entries : List Entry) × AreAt history x.block entries
    × (x.before ≤ length history)
    × IsAnswered (standing alone history x.before x.block) x.request x.reply entries

-- the places of all blocks, the texts of all replies, and the numbers that were told to be used up, in order
abbrev pub blocks_of : List Served → List ℕ
blocks_of served = flat_map (λ (x : Served). x.block) served

abbrev pub output_of : List Served → List ℕ
output_of served = flat_map (λ (x : Served). reply_text x.reply) served

abbrev pub spent_number : Reply → Option ℕ
spent_number (reply.No (no.Spent p)) = Some p
spent_number r = None

abbrev pub spent_numbers : List Served → List ℕ
spent_numbers served = filter_map (λ (x : Served). spent_number x.reply) served

-- A number that was told as used up where entries were made is one of the store: these are the rooms that the
-- hall tells when the session is over.
abbrev pub TellsOfStore : Option (List Room) → List ℕ → Reply → Type 0
TellsOfStore rooms block r = (p : ℕ) → block ≢ [] → spent_number r ≡ Some p → IsStoreSpent rooms p
