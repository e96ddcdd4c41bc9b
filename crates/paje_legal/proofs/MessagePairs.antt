-- The messages of link events: each takes two of them, so there are at most half as many, and its containers
-- are theirs.
use Rattle.std.proofs.Common.{◌≡◌, ℕ, ◌+◌, ◌-◌, ◌*◌, ◌<◌, ◌≤◌, List, [], ◌∷◌, ◌++◌, Bool, true}
use Rattle.std.proofs.Common.{false}
use Rattle.std.proofs.Common.{not, ◌&&◌, ◌==◌, nat_eq, cond, filter, fold, take, Option, Some, None}
use Rattle.std.proofs.Common.{add-zero, filter_map, length, slice_get, refl, sym, ◌∙◌, ap, subst, arith}
use Rattle.std.specs.Cmp.Lexicographic.{pointwise, bytes_decides}
use Rattle.std.specs.List.{AllByRecursion, range_with_len, cons_option}
use Rattle.std.specs.Option.{option_map, option_and_then}
use Rattle.std.proofs.lemmas.Bool.{and_parts, eqb-true}
use Rattle.std.proofs.lemmas.List.{append_assoc, length-append, take_at}
use Rattle.std.proofs.lemmas.List.Elements.{filter-append, filter_agree}
use Rattle.std.proofs.lemmas.Option.{none-some, same_Some, option_and_then_some}
use Rattle.list_lemmas.proofs.Booleans.{one_if}
use Rattle.list_lemmas.proofs.Each.{all_append, all_at, all_filter, all_told}
use Rattle.list_lemmas.proofs.Filters.{filter_filter_and, length-filter_cons, length-filter_parts}
use Rattle.list_lemmas.proofs.Filters.{length-filter_without, length-without_first, without_first}
use Rattle.list_lemmas.proofs.Options.{cond_given}
use Rattle.list_lemmas.proofs.Positions.{before_end, past_end, slice_get-middle}
use Rattle.trace_base.specs.Messages.{is_joined, starts_like, ends_like, message_between, message_from}
use Rattle.trace_base.specs.Messages.{message_at, messages_started, comes_before, put, in_table_order}
use Rattle.trace_base.specs.declared.messages.LinkEvent.{LinkEvent}
use Rattle.trace_base.specs.declared.messages.Message.{Message}

-- ---- one type and key

joined_parts : (l m : LinkEvent) → is_joined l m ≡ true → (l.kind ≡ m.kind) × (l.key ≡ m.key)
joined_parts l m e =
    let both = and_parts (l.kind == m.kind) (pointwise nat_eq l.key m.key) e in
    (eqb-true l.kind m.kind both.0, (bytes_decides l.key m.key).0 both.1)

-- what is joined with one is joined with the others that it is
joined_left : (l m n : LinkEvent) → is_joined l m ≡ true → is_joined l n ≡ is_joined m n
joined_left l m n e =
    let same = joined_parts l m e in
    ap (λ kind. (kind == n.kind) && pointwise nat_eq l.key n.key) same.0
    ∙ ap (λ key. (m.kind == n.kind) && pointwise nat_eq key n.key) same.1

joined_right : (l m n : LinkEvent) → is_joined l m ≡ true → is_joined n l ≡ is_joined n m
joined_right l m n e =
    let same = joined_parts l m e in
    ap (λ kind. (n.kind == kind) && pointwise nat_eq n.key l.key) same.0
    ∙ ap (λ key. (n.kind == m.kind) && pointwise nat_eq n.key key) same.1

-- how many starts, and ends, there are of the type and key of this one
abbrev starts_of : LinkEvent → List LinkEvent → ℕ
starts_of l links = length (starts_like l links)

abbrev ends_of : LinkEvent → List LinkEvent → ℕ
ends_of l links = length (ends_like l links)

starts-more : (l x : LinkEvent) (links : List LinkEvent)
    → starts_of l (links ++ x ∷ []) ≡ starts_of l links + cond (x.starts && is_joined x l) 1 0
starts-more l x links =
    ap length (filter-append (λ m. m.starts && is_joined m l) links (x ∷ []))
    ∙ (length-append (starts_like l links) (starts_like l (x ∷ []))
    ∙ ap (λ n. starts_of l links + n) (length-filter_cons (λ m. m.starts && is_joined m l) x []
    ∙ add-zero (cond (x.starts && is_joined x l) 1 0)))

same_starts : (l x : LinkEvent) (links : List LinkEvent) → is_joined x l ≡ true
    → starts_of l links ≡ starts_of x links
same_starts l x links e = ap length (filter_agree (λ m. m.starts && is_joined m l)
    (λ m. m.starts && is_joined m x) (λ m. ap (λ b. m.starts && b) (sym (joined_right x l m e))) links)

same_ends : (l x : LinkEvent) (links : List LinkEvent) → is_joined x l ≡ true
    → ends_of l links ≡ ends_of x links
same_ends l x links e = ap length (filter_agree (λ m. not m.starts && is_joined m l)
    (λ m. not m.starts && is_joined m x) (λ m. ap (λ b. not m.starts && b) (sym (joined_right x l m e)))
    links)

-- ---- the ends that are left

-- these are the ends that the starts so far leave
abbrev AreLeft : List LinkEvent → List LinkEvent → List LinkEvent → Type 0
AreLeft links before left = (l : LinkEvent)
    → length (filter (λ m. is_joined m l) left) ≡ ends_of l links - starts_of l before

left_at_first : (links : List LinkEvent) → AreLeft links [] (filter (λ m. not m.starts) links)
left_at_first links l =
    let all = ap length (filter_filter_and (λ m. is_joined m l) (λ m. not m.starts) links) in omega (
      arith,
      all,
    )

-- a link event that starts no message takes none
left_kept : (links before left : List LinkEvent) (x : LinkEvent) → AreLeft links before left
    → (x.starts ≡ true → ends_of x links ≤ starts_of x before) → AreLeft links (before ++ x ∷ []) left
left_kept links before left x are past l = by x.starts (is_joined x l) refl refl (starts-more l x before)
  where
    by : (b c : Bool) → x.starts ≡ b → is_joined x l ≡ c
        → starts_of l (before ++ x ∷ []) ≡ starts_of l before + cond (x.starts && is_joined x l) 1 0
        → length (filter (λ m. is_joined m l) left) ≡ ends_of l links - starts_of l (before ++ x ∷ [])
    by false c e f more =
        let none : one_if (x.starts && is_joined x l) ≡ 0 = ap (λ b. one_if (b && is_joined x l)) e in
        let is = are l in
        omega (arith, more, none, is)
    by true false e f more =
        let none : one_if (x.starts && is_joined x l) ≡ 0 = ap (λ b. one_if (b && is_joined x l)) e
        ∙ ap one_if f in
        let is = are l in
        omega (arith, more, none, is)
    by true true e f more =
        let some : one_if (x.starts && is_joined x l) ≡ 1 = ap (λ b. one_if (b && is_joined x l)) e
        ∙ ap one_if f in
        let full = past e in
        let starts = same_starts l x before f in
        let ends = same_ends l x links f in
        let is = are l in
        omega (arith, more, some, full, starts, ends, is)

-- one that starts a message takes one of its type and key
left_taken : (links before left : List LinkEvent) (x : LinkEvent) → AreLeft links before left
    → x.starts ≡ true → 0 < length (filter (λ m. is_joined m x) left)
    → AreLeft links (before ++ x ∷ []) (without_first (λ m. is_joined m x) left)
left_taken links before left x are starts some l =
    let fewer = length-filter_without (λ m. is_joined m x) (λ m. is_joined m l) (is_joined x l)
    (λ m e. joined_left m x l e) left some in
    let more = starts-more l x before in
    let same : one_if (x.starts && is_joined x l) ≡ one_if (is_joined x l) =
    ap (λ b. one_if (b && is_joined x l)) starts in
    let is = are l in
    omega (arith, fewer, more, same, is)

-- ---- the messages

-- of the link events from this place on
abbrev started_from : List LinkEvent → ℕ → List LinkEvent → ℕ
started_from links n rest = length (filter_map (message_at links) (range_with_len n (length rest)))

-- the message of a link event, by those before it
message-here : (links before rest : List LinkEvent) (x : LinkEvent) (n : ℕ) → links ≡ before ++ x ∷ rest
    → length before ≡ n → message_at links n
    ≡ cond x.starts (option_map (message_between x) (slice_get (ends_like x links) (starts_of x before))) None
message-here links before rest x n are at =
    let got : slice_get links n ≡ Some x = ap (λ ls. slice_get ls n) are
    ∙ slice_get-middle before rest x n at in
    let front : take n links ≡ before = ap (take n) are ∙ take_at before (x ∷ rest) n at in
    ap (option_and_then (message_from links n)) got
    ∙ ap (λ ls. cond x.starts (option_map (message_between x) (slice_get (ends_like x links)
    (starts_of x ls))) None) front

not_some : (o : Option LinkEvent) (f : LinkEvent → Message) → option_map f o ≡ None → o ≡ None
not_some None f e = refl
not_some (Some l) f e = absurd (none-some (f l) (sym e))

-- there are no more than ends that are left, and no more than starts
messages_from : (links before rest left : List LinkEvent) (n : ℕ) → links ≡ before ++ rest
    → length before ≡ n → AreLeft links before left
    → (started_from links n rest ≤ length left)
    × (started_from links n rest ≤ length (filter (λ m. m.starts) rest))
messages_from links before [] left n are at free = (omega arith, omega arith)
messages_from links before (x ∷ rest) left n are at free =
    by (message_at links n) refl
    (λ left. messages_from links (before ++ x ∷ []) rest left (n + 1)
    (are ∙ sym (append_assoc before (x ∷ []) rest))
    (length-append before (x ∷ []) ∙ ap (λ k. k + 1) at))
  where
    here : message_at links n
        ≡ cond x.starts (option_map (message_between x) (slice_get (ends_like x links) (starts_of x before)))
        None
    here = message-here links before rest x n are at

    by : (o : Option Message) → message_at links n ≡ o
        → ((left : List LinkEvent) → AreLeft links (before ++ x ∷ []) left
        → (started_from links (n + 1) rest ≤ length left)
        × (started_from links (n + 1) rest ≤ length (filter (λ m. m.starts) rest)))
        → (length (cons_option o (filter_map (message_at links) (range_with_len (n + 1) (length rest))))
        ≤ length left)
        × (length (cons_option o (filter_map (message_at links) (range_with_len (n + 1) (length rest))))
        ≤ length (filter (λ m. m.starts) (x ∷ rest)))
    by None e later =
        let rest_of = later left (left_kept links before left x free (λ starts.
        past_end (ends_like x links) (starts_of x before)
        (not_some (slice_get (ends_like x links) (starts_of x before)) (message_between x)
        (ap (λ b. cond b (option_map (message_between x) (slice_get (ends_like x links) (starts_of x before)))
        None) (sym starts) ∙ (sym here ∙ e))))) in
        let starts = length-filter_cons (λ m. m.starts) x rest in
        (rest_of.0, omega (arith, rest_of, starts))
    by (Some m) e later =
        let parts = cond_given x.starts (option_map (message_between x) (slice_get (ends_like x links)
        (starts_of x before))) m (sym here ∙ e) in
        let below = before_end (message_between x) (ends_like x links) (starts_of x before) m parts.1 in
        let free_here = free x in
        let some : 0 < length (filter (λ m. is_joined m x) left) = omega (arith, below, free_here) in
        let fewer = length-without_first (λ m. is_joined m x) left some in
        let rest_of = later (without_first (λ m. is_joined m x) left)
        (left_taken links before left x free parts.0 some) in
        let starts = length-filter_cons (λ m. m.starts) x rest in
        let is : one_if x.starts ≡ 1 = ap one_if parts.0 in
        (omega (arith, rest_of, fewer), omega (arith, rest_of, starts, is))

-- ---- in the order of a table

put_length : (m : Message) (table : List Message) → length (put m table) ≡ length table + 1
put_length m table =
    let both = length-append (filter (λ n. not (comes_before m n)) table)
    (m ∷ filter (comes_before m) table) in
    let parts = length-filter_parts (comes_before m) table in
    omega (arith, both, parts)

fold_length : (table messages : List Message)
    → length (fold (λ table m. put m table) table messages) ≡ length table + length messages
fold_length table [] = omega arith
fold_length table (m ∷ messages) =
    let later = fold_length (put m table) messages in
    let one = put_length m table in
    omega (arith, later, one)

pub in_table_order-length : (messages : List Message) → length (in_table_order messages) ≡ length messages
unfolding in_table_order
in_table_order-length messages = let all = fold_length [] messages in omega (arith, all)

put_all : (P : Message → Type 0) (m : Message) (table : List Message) → P m → AllByRecursion P table
    → AllByRecursion P (put m table)
put_all P m table is all = all_append P (filter (λ n. not (comes_before m n)) table)
    (m ∷ filter (comes_before m) table) (all_filter P (λ n. not (comes_before m n)) table all)
    (is, all_filter P (comes_before m) table all)

fold_all : (P : Message → Type 0) (table messages : List Message) → AllByRecursion P table
    → AllByRecursion P messages → AllByRecursion P (fold (λ table m. put m table) table messages)
fold_all P table [] all others = all
fold_all P table (m ∷ messages) all others = fold_all P (put m table) messages
    (put_all P m table others.0 all) others.1

pub in_table_order-all : (P : Message → Type 0) (messages : List Message) → AllByRecursion P messages
    → AllByRecursion P (in_table_order messages)
unfolding in_table_order
in_table_order-all P messages all = fold_all P [] messages tt all

-- ---- of all link events

-- a message takes two of them
pub messages_within : (links : List LinkEvent)
    → 2 * length (in_table_order (messages_started links)) ≤ length links
unfolding messages_started
messages_within links =
    let both = messages_from links [] links (filter (λ m. not m.starts) links) 0 refl refl
    (left_at_first links) in
    let parts = length-filter_parts (λ m. m.starts) links in
    let same = in_table_order-length (messages_started links) in
    omega (arith, both, parts, same)

-- a message is between the containers of two of them
abbrev IsBetween : ℕ → Message → Type 0
IsBetween containers m = (m.from < containers) × (m.to < containers)

between_by : (containers : ℕ) (l : LinkEvent) (m : Message) (o : Option LinkEvent) → l.container < containers
    → ((e : LinkEvent) → o ≡ Some e → e.container < containers) → option_map (message_between l) o ≡ Some m
    → IsBetween containers m
between_by containers l m None is others e = absurd (none-some m e)
between_by containers l m (Some end) is others e = subst (IsBetween containers)
    (same_Some (message_between l end) m e) (is, others end refl)

pub messages_between : (links : List LinkEvent) (containers : ℕ)
    → AllByRecursion (λ l. l.container < containers) links
    → AllByRecursion (λ m. (m.from < containers) × (m.to < containers))
    (in_table_order (messages_started links))
unfolding messages_started
messages_between links containers all = in_table_order-all (IsBetween containers) (messages_started links)
    (all_told (message_at links) (IsBetween containers) (λ i m e.
    option_and_then_some {P = IsBetween containers m} (message_from links i) (slice_get links i) m e
    (λ l got from. between_by containers l m
    (slice_get (ends_like l links) (starts_of l (take i links)))
    (all_at (λ l. l.container < containers) links i l all got)
    (λ end is. all_at (λ l. l.container < containers) (ends_like l links) (starts_of l (take i links)) end
    (all_filter (λ l. l.container < containers) (λ m. not m.starts && is_joined m l) links all) is)
    (cond_given l.starts _ m from).1)) (range_with_len 0 (length links)))
