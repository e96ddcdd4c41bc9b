-- The generated trace has a canonical text.
use Rattle.std.proofs.Common.{ℕ, ◌<◌, ◌≤◌, zero, suc, List, [], ◌∷◌, ◌++◌, map, codes, refl, sym, subst}
use Rattle.std.proofs.Common.{arith, ◌∙◌}
use Rattle.std.specs.List.{AllByRecursion, range_with_len, zip}
use Rattle.std.proofs.lemmas.List.{length-map}
use Rattle.std.proofs.lemmas.List.Elements.{All-from_recursion}
use Rattle.list_lemmas.proofs.Each.{all_append, all_map}
use Rattle.trace_base.specs.Info.{NamesExisting}
use Rattle.trace_base.specs.Stream.{IsLegal}
use Rattle.paje_print.specs.Canonical.{IsQuotable, IsBelowRoot, StartsBeforeItsEnd, SpansItsContainer}
use Rattle.paje_print.specs.Canonical.{LinksExisting, HasCanonicalSize, KeepsLimits, IsCanonical, texts_in}
use Rattle.paje_print.specs.Generated.{generated_end, generated_stream, generated_track, generated_containers}
use Rattle.paje_print.specs.Generated.{functions_generated, kernels_called, trace_of_bundles}
use Rattle.paje_print.proofs.GeneratedStreams.{stream-legal}
use Rattle.paje_print.proofs.GeneratedFunctions.{kernels-few, kernels-below, kernel_text, functions-are}
use Rattle.paje_print.proofs.GeneratedFunctions.{functions-different, functions-numbered}
use Rattle.paje_print.proofs.GeneratedQuotes.{quotable, joined-quotable, decimal-quotable}
use Rattle.paje_print.proofs.GeneratedNames.{names_made, ranks_made, each_rank, containers-start, tracks_made}
use Rattle.paje_print.proofs.GeneratedNames.{streams_made, each_stream, tracks-existing, tracks-below_root}
use Rattle.paje_print.proofs.GeneratedNames.{tracks-apart, tracks-span}
use Rattle.paje_print.proofs.GeneratedLinks.{links_of, each_link, links-existing, links-sized, end-is}

-- ---- texts

names-quotable : (end : ℕ) → AllByRecursion IsQuotable (map (λ c. c.name) (generated_containers end))
names-quotable end =
    let ranks = each_rank end (λ c. IsQuotable c.name)
    (λ rank low. joined-quotable (codes "rank ") rank refl (omega (arith, low))) in
    (quotable (codes "0") refl, all_map IsQuotable (λ c. c.name) (ranks_made end) ranks)

kernels-quotable : (kernels : List ℕ) → AllByRecursion (λ kernel. kernel < 8) kernels
    → AllByRecursion IsQuotable (map kernel_text kernels)
kernels-quotable [] small = tt
kernels-quotable (k ∷ ks) small =
    let first : k < 8 = small.0 in
    (joined-quotable (codes "kernel ") k refl (omega (arith, first)), kernels-quotable ks small.1)

functions-quotable : (seed count : ℕ) → AllByRecursion IsQuotable (functions_generated seed count)
functions-quotable seed zero = tt
functions-quotable seed (suc n) =
    let kernels = kernels-quotable (kernels_called seed (suc n)) (kernels-below seed (suc n)) in
    subst (AllByRecursion IsQuotable) (sym (functions-are seed n)) (quotable (codes "work") refl, kernels)

keys-quotable : (seed count : ℕ) → count ≤ 250000
    → AllByRecursion IsQuotable (map (λ l. l.key) (links_of seed count))
keys-quotable seed count few = all_map IsQuotable (λ l. l.key) (links_of seed count)
    (each_link seed count (λ l. IsQuotable l.key)
    (λ n early. decimal-quotable n (omega (arith, early, few)))
    (λ n early. decimal-quotable n (omega (arith, early, few))))

texts-quotable : (seed count : ℕ) → count ≤ 250000
    → AllByRecursion IsQuotable (texts_in (trace_of_bundles seed count))
texts-quotable seed count few =
    let names : List (List ℕ) = map (λ c. c.name) (generated_containers (generated_end seed count)) in
    let kinds : List (List ℕ) = codes "code" ∷ codes "mpi" ∷ [] in
    let link_kinds : List (List ℕ) = codes "msg" ∷ [] in
    let functions : List (List ℕ) = functions_generated seed count in
    all_append IsQuotable (names ++ kinds ++ link_kinds ++ functions) (map (λ l. l.key) (links_of seed count))
    (all_append IsQuotable (names ++ kinds ++ link_kinds) functions
    (all_append IsQuotable (names ++ kinds) link_kinds
    (all_append IsQuotable names kinds (names-quotable (generated_end seed count))
    (quotable (codes "code") refl, (quotable (codes "mpi") refl, tt)))
    (quotable (codes "msg") refl, tt))
    (functions-quotable seed count))
    (keys-quotable seed count few)

-- ---- the trace

streams-legal : (seed count : ℕ) → count ≤ 250000 → AllByRecursion IsLegal (streams_made seed count)
streams-legal seed count few = each_stream seed count IsLegal
    (λ track low. stream-legal seed count track low few (kernels-few seed count))

pub canonical-within : (seed count : ℕ) → count ≤ 250000 → KeepsLimits (trace_of_bundles seed count)
    → IsCanonical (trace_of_bundles seed count)
canonical-within seed count few limits = record {
  texts = All-from_recursion IsQuotable (texts_in (trace_of_bundles seed count))
      (texts-quotable seed count few);
  root = refl;
  intervals = All-from_recursion StartsBeforeItsEnd (generated_containers (generated_end seed count))
      (containers-start (generated_end seed count));
  streams = length-map (range_with_len 0 128) (generated_stream seed count)
      ∙ sym (length-map (range_with_len 0 128) generated_track);
  existing = All-from_recursion (NamesExisting (names_made seed count)) tracks_made
      (tracks-existing seed count);
  below_root = All-from_recursion IsBelowRoot tracks_made tracks-below_root;
  distinct = tracks-apart;
  spans = All-from_recursion (SpansItsContainer (names_made seed count))
      (zip tracks_made (streams_made seed count)) (tracks-span seed count);
  legal = All-from_recursion IsLegal (streams_made seed count) (streams-legal seed count few);
  different = functions-different seed count;
  numbered = functions-numbered seed count;
  linked = All-from_recursion (LinksExisting (names_made seed count)) (links_of seed count)
      (links-existing seed count);
  sizes = All-from_recursion HasCanonicalSize (links_of seed count) (links-sized seed count);
  end = end-is seed count;
  limits = limits;
}
