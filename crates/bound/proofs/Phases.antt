-- Accesses cut into phases, greedily: a phase ends just before the access that would make more than a different pages. Where the rule is
-- kept a phase loads at most a pages, and so `all_phases`: m complete phases and one more make at most (m + 1) a loads.
use mathlib.Core.Path.{◌≡◌, refl, sym, ◌∙◌, ap}
use mathlib.Core.List.{List, [], ◌∷◌, ◌++◌, append_assoc, append-nil, nil-subset, cons-subset, not-mem-nil, Nodup-nil, Nodup-cons, Subset-refl, Subset-trans}
use Prim.Native.Nat.{ℕ, suc, ◌*◌, ◌≤◌}
use native.Mathlib.Omega.{arith}
use lib.ListN.{length}
use Rattle.model.specs.declared.VirtualPage.{VirtualPage}
use Rattle.bound.specs.Pages.{◌∈◌, ◌⊆◌, NoTwice}
use Rattle.bound.specs.Rule.{Ask, page_asked, asked, loaded, loads, Sparing}
use Rattle.bound.proofs.Pages.{no_more}
use Rattle.bound.proofs.Rule.{loaded_asked, loads_append, asked_append}

-- Of the accesses t those of w are left. m phases are complete, and `pages` are the different pages of the current one.
pub record Phases (a : ℕ) (t w : List Ask) (m : ℕ) (pages : List VirtualPage) : Type 0 where
  pub complete : List Ask
  pub current : List Ask
  pub split : t ≡ complete ++ (current ++ w)
  pub few : loads complete ≤ m * a
  pub single : NoTwice pages
  pub room : length pages ≤ a
  pub cover : asked current ⊆ pages

-- no access yet
pub no_phase : (a : ℕ) (t : List Ask) → Phases a t t 0 []
no_phase a t = record { complete = []; current = []; split = refl; few = omega arith; single = Nodup-nil; room = omega arith; cover = nil-subset [] }

-- an access more in the current phase, which has room for its page or has it already
pub same_phase : {a m : ℕ} {t w : List Ask} {pages more : List VirtualPage} (x : Ask) → page_asked x ∈ more → pages ⊆ more → NoTwice more
    → length more ≤ a → Phases a t (x ∷ w) m pages → Phases a t w m more
same_phase {w = w} x i s n r c =
    record {
      complete = c.complete;
      current = c.current ++ (x ∷ []);
      split = c.split ∙ ap (λ (l : List Ask). c.complete ++ l) (sym (append_assoc c.current (x ∷ []) w));
      few = c.few;
      single = n;
      room = r;
      cover = asked_append c.current (x ∷ []) (Subset-trans c.cover s) (cons-subset.1 (i, nil-subset _));
    }

module _ {a : ℕ} {t : List Ask} (rule : Sparing a t) where
  -- the current phase loads no more pages than it asks for
  phase_loads : {w : List Ask} {m : ℕ} {pages : List VirtualPage} (c : Phases a t w m pages) → loads c.current ≤ length pages
  unfolding Sparing
  phase_loads {w} {m} {pages} c =
      no_more (loaded c.current) pages (rule c.complete c.current w c.split pages c.room c.cover)
      (Subset-trans (loaded_asked c.current) c.cover)

  -- an access that begins a new phase
  pub next_phase : {w : List Ask} {m : ℕ} {pages : List VirtualPage} (x : Ask) → 1 ≤ a
      → Phases a t (x ∷ w) m pages → Phases a t w (suc m) (page_asked x ∷ [])
  next_phase {w} {m} {pages} x some c =
      record {
        complete = c.complete ++ c.current;
        current = x ∷ [];
        split = c.split ∙ sym (append_assoc c.complete c.current (x ∷ w));
        few = rw loads_append (omega (arith, phase_loads c, c.few, c.room));
        single = Nodup-cons.1 (not-mem-nil, Nodup-nil);
        room = some;
        cover = Subset-refl _;
      }

  -- no access is left
  pub all_phases : {m : ℕ} {pages : List VirtualPage} → Phases a t [] m pages → loads t ≤ suc m * a
  all_phases {m} c =
      let whole : t ≡ c.complete ++ c.current = c.split ∙ ap (λ (l : List Ask). c.complete ++ l) (append-nil c.current) in
      omega (arith, ap loads whole, loads_append c.complete c.current, phase_loads c, c.few, c.room)
