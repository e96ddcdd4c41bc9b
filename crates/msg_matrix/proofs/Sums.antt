-- The row of a pair and the table of all rows, one message more.
use Rattle.std.proofs.Common.{◌≡◌, ℕ, ◌+◌, ◌^◌, ◌<◌, ◌≤◌, Bool, true, false, cond, max, List, [], ◌∷◌, ◌++◌}
use Rattle.std.proofs.Common.{length, take, get_or, filter, fold, map, sum_by, count_by, unwrap_or, ap}
use Rattle.std.proofs.Common.{subst, sym, ◌∙◌, append-nil, arith, length-append}
use Rattle.std.proofs.lemmas.List.{take_more}
use Rattle.std.proofs.lemmas.List.Elements.{filter-append}
use Rattle.std.proofs.lemmas.List.Sums.{fold_push, sum_by_push}
use Rattle.std.proofs.lemmas.List.{map_push}
use Rattle.trace_base.specs.Flat.{is_within}
use Rattle.std.specs.BTreeMap.{is_at, keys}
use Rattle.std.specs.BTreeSet.{insert_key}
use Rattle.std.specs.Map.{keys_of, lookup}
use Rattle.trace_base.specs.Matrix.{sent_within, is_backward, transit_of, is_of, pair_cmp, pair_of, pair_row}
use Rattle.trace_base.specs.Matrix.{pairs_of}
use Rattle.trace_base.specs.declared.matrix.MatrixRow.{MatrixRow}
use Rattle.trace_base.specs.declared.messages.Message.{Message}
use Rattle.msg_matrix.specs.Pairs.{IsOfAtMost, Pairs, empty_row, row_at, row_with}

-- whether the message was sent within the interval
abbrev pub is_sent : ℕ → ℕ → Message → Bool
is_sent a b m = is_within a b m.send

pub sent_within-more : (a b : ℕ) (ms : List Message) (i : ℕ) (d : Message) → i < length ms
    → sent_within a b (take (i + 1) ms) ≡ sent_within a b (take i ms) ++ cond (is_sent a b (get_or ms i d))
    (get_or ms i d ∷ []) []
sent_within-more a b ms i d h = ap (sent_within a b) (take_more ms i d h) ∙ filter-append (is_sent a b)
    (take i ms) (get_or ms i d ∷ [])

-- the row of these messages, which are the pair's
row_of_own : ℕ × ℕ → List Message → MatrixRow
row_of_own p ms = record {
  from = p.0;
  to = p.1;
  count = length ms;
  bytes = sum_by (λ m. m.size) ms;
  transit = sum_by transit_of ms;
  greatest = fold (λ most m. max most (transit_of m)) 0 ms;
  backward = count_by is_backward ms;
}

row_of_own-push : (p : ℕ × ℕ) (ms : List Message) (m : Message) → row_of_own p (ms ++ m ∷ []) ≡ row_with
    (row_of_own p ms) m
unfolding row_of_own
row_of_own-push p ms m =
    let count : length (ms ++ m ∷ []) ≡ length ms + 1 = length-append ms (m ∷ []) in
    let bytes : sum_by (λ (x : Message). x.size) (ms ++ m ∷ []) ≡ sum_by (λ (x : Message). x.size) ms
    + m.size = sum_by_push (λ (x : Message). x.size) ms m in
    let transit : sum_by transit_of (ms ++ m ∷ []) ≡ sum_by transit_of ms
    + transit_of m = sum_by_push transit_of ms m in
    let greatest : fold (λ most x. max most (transit_of x)) 0 (ms ++ m ∷ []) ≡ max
    (fold (λ most x. max most (transit_of x)) 0 ms) (transit_of m) =
    fold_push (λ most x. max most (transit_of x)) 0 ms m in
    let backward : count_by is_backward (ms ++ m ∷ []) ≡ count_by is_backward ms + cond (is_backward m) 1 0 =
    sum_by_push (λ (x : Message). cond (is_backward x) 1 0) ms m in
    cc

pub pair_row-push : (p : ℕ × ℕ) (ms : List Message) (m : Message)
    → pair_row (ms ++ m ∷ []) p ≡ cond (is_of p m) (row_with (pair_row ms p) m) (pair_row ms p)
unfolding pair_row row_of_own
pair_row-push p ms m =
    ap (row_of_own p) (filter-append (is_of p) ms (m ∷ [])) ∙ go (is_of p m)
  where
    go : (b : Bool) → row_of_own p (filter (is_of p) ms ++ cond b (m ∷ []) []) ≡ cond b
        (row_with (row_of_own p (filter (is_of p) ms)) m) (row_of_own p (filter (is_of p) ms))
    go true = row_of_own-push p (filter (is_of p) ms) m
    go false = ap (row_of_own p) (append-nil (filter (is_of p) ms))

pub IsOfAtMost-more : (row : MatrixRow) (n k : ℕ) → n ≤ k → IsOfAtMost row n → IsOfAtMost row k
IsOfAtMost-more row n k h small = record {
  count = omega (arith, small.count);
  bytes = omega (arith, small.bytes);
  transit = omega (arith, small.transit);
  backward = omega (arith, small.backward);
}

pub IsOfAtMost-with : (row : MatrixRow) (m : Message) (n : ℕ) → m.size < 2 ^ 64 → transit_of m < 2 ^ 64
    → IsOfAtMost row n → IsOfAtMost (row_with row m) (n + 1)
IsOfAtMost-with row m n h k small = record {
  count = omega (arith, small.count);
  bytes = omega (arith, small.bytes);
  transit = omega (arith, small.transit);
  backward = one (is_backward m) small.backward;
}
  where
    one : (b : Bool) → row.backward ≤ n → row.backward + cond b 1 0 ≤ n + 1
    one true l = omega arith
    one false l = omega arith

pub IsOfAtMost-cond : (b : Bool) (row more : MatrixRow) (n : ℕ) → (IsOfAtMost row n → IsOfAtMost more (n + 1))
    → IsOfAtMost row n → IsOfAtMost (cond b more row) (n + 1)
IsOfAtMost-cond true row more n h small = h small
IsOfAtMost-cond false row more n h small = IsOfAtMost-more row n (n + 1) (omega arith) small

pub pairs_of-push : (ms : List Message) (m : Message) → pairs_of (ms ++ m ∷ []) ≡ insert_key pair_cmp
    (pairs_of ms) (pair_of m)
unfolding pairs_of
pairs_of-push ms m = ap (fold (insert_key pair_cmp) []) (map_push pair_of ms m) ∙ fold_push
    (insert_key pair_cmp) [] (map pair_of ms) (pair_of m)

-- the table has the rows of these messages, of which there are at most n
pub record HasRows (table : Pairs) (ms : List Message) (n : ℕ) : Type 0 where
  pub rows : (q : ℕ × ℕ) → row_at table q ≡ pair_row ms q
  pub in_order : keys table ≡ pairs_of ms
  pub small : (q : ℕ × ℕ) → IsOfAtMost (row_at table q) n

pub HasRows-none : (table : Pairs) → table.entries ≡ [] → HasRows table [] 0
unfolding pair_row pairs_of
HasRows-none table none =
    let empty : (q : ℕ × ℕ) → row_at table q ≡ empty_row q =
    λ (q : ℕ × ℕ). ap (λ (es : List ((ℕ × ℕ) × MatrixRow)). unwrap_or (lookup (is_at (pair_cmp q)) es)
    (empty_row q)) none in
    let P : MatrixRow → Type 0 = λ r. IsOfAtMost r 0 in
    record {
      rows = empty;
      in_order = ap keys_of none;
      small = λ q. subst P (sym (empty q)) (record {
        count = omega arith;
        bytes = omega arith;
        transit = omega arith;
        backward = omega arith;
      });
    }

pub HasRows-more : (table new : Pairs) (ms : List Message) (m : Message) (n : ℕ) → HasRows table ms n
    → ((q : ℕ × ℕ) → row_at new q ≡ cond (is_of q m) (row_with (row_at table q) m) (row_at table q))
    → keys new ≡ insert_key pair_cmp (keys table) (pair_of m)
    → ((q : ℕ × ℕ) (k : ℕ) → IsOfAtMost (row_at table q) k → IsOfAtMost (row_at new q) (k + 1))
    → HasRows new (ms ++ m ∷ []) (n + 1)
HasRows-more table new ms m n has rows in_order small = record {
  rows = λ q. rows q ∙ ap (λ (r : MatrixRow). cond (is_of q m) (row_with r m) r) (has.rows q)
      ∙ sym (pair_row-push q ms m);
  in_order = in_order ∙ ap (λ (ps : List (ℕ × ℕ)). insert_key pair_cmp ps (pair_of m)) has.in_order
      ∙ sym (pairs_of-push ms m);
  small = λ q. small q n (has.small q);
}

pub HasRows-as : (table : Pairs) (ms : List Message) (n k : ℕ) → n ≤ k → HasRows table ms n
    → HasRows table ms k
HasRows-as table ms n k h has = record {
  rows = has.rows;
  in_order = has.in_order;
  small = λ q. IsOfAtMost-more (row_at table q) n k h (has.small q);
}
