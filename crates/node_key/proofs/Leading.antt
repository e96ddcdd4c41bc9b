-- What lies under what lies under a number, and where keys are found otherwise.
use Rattle.std.proofs.Common.{◌≡◌, ℕ, sym, ◌∙◌}
use Rattle.node_key.specs.Leads.{KeepsLed, Leads, here, below}
use Rattle.node_key.specs.Stands.{KeyAt}

pub leads-then : (at : KeyAt) (m n k : ℕ) → Leads at m n → Leads at n k → Leads at m k
leads-then at m n k first here = first
leads-then at m n k first (below j key kid up is has) =
    below j key kid (leads-then at m n j first up) is has

-- where all that is led to has the same key elsewhere, it is led to there
pub leads-same : (before after : KeyAt) (from : ℕ) → ((m : ℕ) → Leads before from m → after m ≡ before m)
    → (n : ℕ) → Leads before from n → Leads after from n
leads-same before after from same n here = here
leads-same before after from same n (below m key kid up is has) =
    below m key kid (leads-same before after from same m up) (same m up ∙ is) has

-- ... and nothing else is
pub leads-back : (before after : KeyAt) (from : ℕ) → ((m : ℕ) → Leads before from m → after m ≡ before m)
    → (n : ℕ) → Leads after from n → Leads before from n
leads-back before after from same n here = here
leads-back before after from same n (below m key kid up is has) =
    let back = leads-back before after from same m up in
    below m key kid back (sym (same m back) ∙ is) has

-- ---- all that is led to stays

-- what stays twice stays
pub keeps-then : (old mid new : KeyAt) (from : ℕ) → KeepsLed old mid from → KeepsLed mid new from
    → KeepsLed old new from
keeps-then old mid new from p q = record {
  led = λ n. (λ l. (q.led n).0 ((p.led n).0 l), λ l. (p.led n).1 ((q.led n).1 l));
  keys = λ n l.
      let (key, was, is) = p.keys n l in
      let (other, was', is') = q.keys n ((p.led n).0 l) in
      (key, was, is' ∙ sym was' ∙ is);
  trees = λ n t l. (
    λ s. (q.trees n t ((p.led n).0 l)).0 ((p.trees n t l).0 s),
    λ s. (p.trees n t l).1 ((q.trees n t ((p.led n).0 l)).1 s),
  );
}

-- what lies under a number of which it is so stays as well
pub keeps-below : (before after : KeyAt) (from n : ℕ) → KeepsLed before after from → Leads before from n
    → KeepsLed before after n
keeps-below before after from n p down = record {
  led = λ m. (leads-same before after n same m, leads-back before after n same m);
  keys = λ m l. p.keys m (leads-then before from n m down l);
  trees = λ m t l. p.trees m t (leads-then before from n m down l);
}
  where
    same : (m : ℕ) → Leads before n m → after m ≡ before m
    same m l = let (key, was, is) = p.keys m (leads-then before from n m down l) in is ∙ sym was
