-- Rows of call-tree profiles in depth-first order, and the sum of two profiles' rows.
use Rattle.std.proofs.Common.{◌≡◌, ℕ, ◌+◌, ◌-◌, List, [], ◌∷◌, ◌++◌, length, take, map, refl, ap, sym}
use Rattle.std.proofs.Common.{subst, ◌∙◌, arith, zero-add, length-append, nat_eq}
use Rattle.std.specs.Cmp.Lexicographic.{pointwise, texts_ties}
use Rattle.std.specs.FinMap.{nat_cmp-IsAntisymmetric, slice_cmp-IsAntisymmetric}
use Rattle.std.specs.List.{AllByRecursion}
use Rattle.std.specs.Ordering.{is_eq}
use Rattle.std.specs.declared.cmp.Ordering.TheVariants.{Less}
use Rattle.std.proofs.lemmas.Cmp.{nat_list_cmp_total}
use Rattle.std.proofs.lemmas.List.{length-take}
use Rattle.std.proofs.lemmas.List.Elements.{filter_agree}
use Rattle.list_lemmas.proofs.Fronts.{cons_head, cons_tail}
use Rattle.list_lemmas.proofs.Maps.{map_agree}
use Rattle.list_lemmas.proofs.Positions.{slice_index-last}
use Rattle.trace_base.specs.declared.profile.PathRow.{PathRow}
use Rattle.trace_base.specs.declared.profile.PathProfile.{PathProfile}
use Rattle.profile_math.specs.InOrder.{in_order}
use Rattle.profile_math.specs.Merging.{merged}
use Rattle.profile_math.specs.PathSum.{PathNumbers, path_after, numbers_after, numbers_of, row_of_path}
use Rattle.profile_math.specs.PathSum.{path_total}
use Rattle.profile_math.specs.PathSum.{numbers_for, by_path, sum_of_paths, IsDepthFirst, path_row_place}
use Rattle.profile_math.specs.PathSum.{path_row_plus}
use Rattle.profile_math.proofs.Keyed.{at, sums, Climbs, Totals, climbs-from, sorted-from, merged-is}
use Rattle.profile_math.proofs.Keyed.{merged-climbs}
use Rattle.profile_math.proofs.PathMerging.{lex, path_of, numbers_plus, Chain, Deep, merged-numbers}
use Rattle.profile_math.proofs.PathMerging.{length-after, first-follows}

pub path_totals : Totals lex path_of path_total numbers_plus
path_totals = record {
  order = nat_list_cmp_total;
  same = slice_cmp-IsAntisymmetric nat_cmp-IsAntisymmetric;
  key_of = λ k xs. refl;
  key_plus = λ x y. refl;
  one = λ x. rw (zero-add x.calls, zero-add x.incl, zero-add x.excl);
  two = λ x y. rw (zero-add x.calls, zero-add x.incl, zero-add x.excl);
}

pub by_path-is : (ns : List PathNumbers) → by_path ns ≡ sums lex path_of path_total ns
unfolding by_path
by_path-is ns = map_agree (λ p. path_total p (numbers_for p ns)) (λ p. path_total p (at lex path_of p ns))
    (λ p. ap (path_total p) (filter_agree (λ n. pointwise nat_eq n.path p) (λ n. is_eq (lex n.path p))
    (λ n. texts_ties n.path p) ns)) (in_order lex (map path_of ns))

pub nil-first : (q : List ℕ) (f : ℕ) → lex [] (q ++ f ∷ []) ≡ Less
nil-first [] f = refl
nil-first (x ∷ q) f = refl

-- the first of the rows comes behind the path
abbrev Behind : List ℕ → List PathRow → Type 0
Behind a [] = Unit {0}
Behind a (r ∷ rs) = lex a (path_after a r) ≡ Less

chain-from : (a : List ℕ) (rows : List PathRow) → map (λ r. r.depth) rows ≡ map (λ n. length n.path)
    (numbers_after a rows) → Climbs lex path_of (numbers_after a rows) → Behind a rows → Chain a rows
chain-from a [] d c b = tt
chain-from a (r ∷ rs) d c b =
    let depth : r.depth ≡ length (path_after a r) = cons_head r.depth (length (path_after a r))
    (map (λ s. s.depth) rs)
    (map (λ n. length n.path) (numbers_after (path_after a r) rs)) d in
    let rest = cons_tail r.depth (length (path_after a r)) (map (λ s. s.depth) rs)
    (map (λ n. length n.path) (numbers_after (path_after a r) rs)) d in
    let long = length-append (take (r.depth - 1) a) (r.func ∷ []) in
    let front = length-take (r.depth - 1) a in (
      record { deep = omega arith; within = omega arith; shared = refl; behind = b },
      chain-from (path_after a r) rs rest c.1 (next rs c.0),
    )
  where
    next : (ss : List PathRow) → AllByRecursion (λ n. lex (path_after a r) n.path ≡ Less)
        (numbers_after (path_after a r) ss) → Behind (path_after a r) ss
    next [] h = tt
    next (s ∷ ss) h = h.0

pub chain-of : (rows : List PathRow) → IsDepthFirst rows → Chain [] rows
unfolding numbers_of
chain-of rows h = chain-from [] rows h.depths (climbs-from lex path_of (numbers_after [] rows) h.rising)
    (first rows)
  where
    first : (rs : List PathRow) → Behind [] rs
    first [] = tt
    first (r ∷ rs) = nil-first (take (r.depth - 1) []) r.func

pub climbs-of : (rows : List PathRow) → IsDepthFirst rows → Climbs lex path_of (numbers_after [] rows)
unfolding numbers_of
climbs-of rows h = climbs-from lex path_of (numbers_after [] rows) h.rising

-- the depths are those of the paths
depths-of : (a : List ℕ) (rows : List PathRow) → Deep a rows
    → map (λ r. r.depth) rows ≡ map (λ n. length n.path)
    (numbers_after a rows)
depths-of a [] h = refl
depths-of a (r ∷ rs) h = ap (λ n. n ∷ map (λ s. s.depth) rs) (sym (length-after a r h.0 h.1))
    ∙ ap (λ (ns : List ℕ). length (path_after a r) ∷ ns) (depths-of (path_after a r) rs h.2)

-- the rows are those of their paths
pub rows-of : (a : List ℕ) (rows : List PathRow) → Deep a rows → rows ≡ map row_of_path (numbers_after a rows)
rows-of a [] h = refl
rows-of a (r ∷ rs) h =
    ap (λ n. let s : PathRow = record {
      depth = n;
      func = r.func;
      calls = r.calls;
      incl = r.incl;
      excl = r.excl;
    } in
    s ∷ rs) (sym (length-after a r h.0 h.1))
    ∙ ap (λ n. let s : PathRow = record {
      depth = length (path_after a r);
      func = n;
      calls = r.calls;
      incl = r.incl;
      excl = r.excl;
    } in s ∷ rs) (sym (slice_index-last (take (r.depth - 1) a) r.func))
    ∙ ap (λ (us : List PathRow). row_of_path (record {
      path = path_after a r;
      calls = r.calls;
      incl = r.incl;
      excl = r.excl;
    }) ∷ us) (rows-of (path_after a r) rs h.2)

pub depth_first : (rows : List PathRow) → Deep [] rows → Climbs lex path_of (numbers_after [] rows)
    → IsDepthFirst rows
unfolding numbers_of
depth_first rows d c = record {
  depths = depths-of [] rows d;
  rising = sorted-from lex path_of (numbers_after [] rows) c;
}

pub path_rows : (xs ys : List PathRow) → IsDepthFirst xs → IsDepthFirst ys
    → (merged path_row_place path_row_plus xs ys ≡ map row_of_path (by_path (numbers_of xs ++ numbers_of ys)))
    × IsDepthFirst (merged path_row_place path_row_plus xs ys)
unfolding numbers_of
path_rows xs ys h g =
    let zs : List PathRow = merged path_row_place path_row_plus xs ys in
    let cx = chain-of xs h in
    let cy = chain-of ys g in
    let both = merged-numbers xs ys [] [] [] cx cy (first-follows [] xs cx) (first-follows [] ys cy) in
    let is : numbers_after [] zs ≡ by_path (numbers_after [] xs ++ numbers_after [] ys) =
    both.same ∙ merged-is lex path_of path_total numbers_plus path_totals (numbers_after [] xs)
    (numbers_after [] ys)
    (climbs-of xs h) (climbs-of ys g) ∙ sym (by_path-is (numbers_after [] xs ++ numbers_after [] ys)) in (
      rows-of [] zs both.deep ∙ ap (map row_of_path) is,
      depth_first zs both.deep (subst (Climbs lex path_of) (sym both.same)
          (merged-climbs lex path_of path_total numbers_plus path_totals (numbers_after [] xs)
          (numbers_after [] ys)
          (climbs-of xs h) (climbs-of ys g))),
    )

pub sum_rows : (p q : PathProfile) → IsDepthFirst p.rows → IsDepthFirst q.rows
    → merged path_row_place path_row_plus p.rows q.rows ≡ (sum_of_paths p q).rows
unfolding sum_of_paths
sum_rows p q h g = (path_rows p.rows q.rows h g).0

pub sum_is : (p q : PathProfile) (rows : List PathRow) → rows ≡ (sum_of_paths p q).rows
    → record { bare = p.bare + q.bare; rows = rows } ≡ sum_of_paths p q
unfolding sum_of_paths
sum_is p q rows e = ap (λ (us : List PathRow). let s : PathProfile =
    record { bare = p.bare + q.bare; rows = us } in s) e

pub sum-bare : (p q : PathProfile) → (sum_of_paths p q).bare ≡ p.bare + q.bare
unfolding sum_of_paths
sum-bare p q = refl

pub sum-ordered : (p q : PathProfile) → IsDepthFirst p.rows → IsDepthFirst q.rows → IsDepthFirst
    ((sum_of_paths p q).rows)
sum-ordered p q h g = subst IsDepthFirst (sum_rows p q h g) (path_rows p.rows q.rows h g).1
