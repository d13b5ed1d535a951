-- What is read, or written, one after another.
use mathlib.Core.Path.{◌≡◌, refl, sym, ap, ◌∙◌}
use mathlib.Core.Logic.{⊎_elim}
use Rattle.std.proofs.Common.{ℕ, List, [], ◌++◌, ◌+◌, ◌≤◌, ◌<◌, length, take, drop, append_assoc, Some, None, Ok, Err, OnOk, rules, arith}
use lib.ListN.{length-append}
use lib.Seq.{length-take-le, take-add, drop-append_seam}
use borrow.Rule.Slice.PartMut.{put_mid, post_of}
use Rattle.std.proofs.lemmas.Bool.{cases_lt}
use Rattle.std.proofs.lemmas.List.{append-nil, take-append-le, drop-append-le}
use Rattle.std.proofs.lemmas.Slice.{take-put_mid_below}
use Rattle.std.specs.Prelude.{Option, IfSome, Result}
use Rattle.std.specs.Io.KnownBytes.{Appends, Consumes, IsAtEnd}

pub consumed : (a b c : Option (List ℕ)) (xs ys : List ℕ) → Consumes a b xs → Consumes b c ys → Consumes a c (xs ++ ys)
consumed None b c xs ys h i = search rules
consumed (Some l) None c xs ys h i = search rules
consumed (Some l) (Some m) None xs ys h i = search rules
consumed (Some l) (Some m) (Some n) xs ys h i = grind (arith, append_assoc)

pub appended : (a b c : Option (List ℕ)) (xs ys : List ℕ) → Appends a b xs → Appends b c ys → Appends a c (xs ++ ys)
appended None b c xs ys h i = search rules
appended (Some l) None c xs ys h i = search rules
appended (Some l) (Some m) None xs ys h i = search rules
appended (Some l) (Some m) (Some n) xs ys h i = grind (arith, append_assoc)

-- the first n of what a part was overwritten by stand behind what stood before it
module _ (xs ys : List ℕ) (d k n f : ℕ) (in_list : d ≤ length xs) (in_part : n ≤ length ys) (before : f ≤ d) where
  abbrev after : List ℕ
  after = put_mid d k xs ys

  behind : drop d after ≡ ys ++ post_of d k xs
  behind =
      ap (λ m. drop m after) (sym (length-take-le d xs in_list)) ∙ drop-append_seam (take d xs) (ys ++ post_of d k xs)

  taken : take (d + n) after ≡ take d xs ++ take n ys
  taken =
      take-add d n after
      ∙ ap (λ l. l ++ take n (drop d after)) (take-put_mid_below d k xs ys d (omega arith) in_list)
      ∙ ap (λ l. take d xs ++ take n l) behind
      ∙ ap (λ l. take d xs ++ l) (take-append-le n ys (post_of d k xs) in_part)

  pub grown : drop f (take (d + n) after) ≡ drop f (take d xs) ++ take n ys
  grown =
      ap (drop f) taken
      ∙ drop-append-le f (take d xs) (take n ys) (omega (arith, length-take-le d xs in_list, before))

-- of a text so much is written that a rest is left
pub record Saying (total : List ℕ) (old new : Option (List ℕ)) (rest : List ℕ) : Type 0 where
  pub said : List ℕ
  pub is : total ≡ said ++ rest
  pub adds : Appends old new said

unwritten : (a : Option (List ℕ)) → Appends a a []
unwritten None = search rules
unwritten (Some l) = sym (append-nil l)

pub starts : (total : List ℕ) (a : Option (List ℕ)) → Saying total a a total
starts total a = record { said = []; is = refl; adds = unwritten a }

pub again : {total rest rest' : List ℕ} (more : List ℕ) {a b c : Option (List ℕ)} → Saying total a b rest → rest ≡ more ++ rest'
    → Appends b c more → Saying total a c rest'
again {rest = rest} {rest'} more {a} {b} {c} s e h = record {
  said = s.said ++ more;
  is = s.is ∙ ap (λ l. s.said ++ l) e ∙ sym (append_assoc s.said more rest');
  adds = appended a b c s.said more s.adds h;
}

pub at_end : {total rest : List ℕ} {a b : Option (List ℕ)} → Saying total a b rest → rest ≡ [] → Appends a b total
at_end {a = a} {b} s e =
    let whole = s.is ∙ ap (λ l. s.said ++ l) e ∙ append-nil s.said in
    rw whole s.adds

-- what was read is all that the reader had, or so much that what follows does not matter
module _ {P : List ℕ → Type 0} (m : ℕ) (part : List ℕ) (same : (xs : List ℕ) → m < length part → m < length xs → P part → P xs) where
  by_rest : (l rest : List ℕ) → l ≡ part ++ rest → (length part ≤ m → rest ≡ []) → P part → P l
  by_rest l rest h e p =
      ⊎_elim (λ (i : m < length part). same l i (omega (arith, i, ap length h, length-append part rest)) p)
      (λ (i : length part ≤ m). rw (h ∙ ap (λ x. part ++ x) (e i) ∙ append-nil part) p) (cases_lt m (length part))

  pub read_all : (old new : Option (List ℕ)) → Consumes old new part → (length part ≤ m → IsAtEnd new) → P part → IfSome old P
  read_all None new h e p = search rules
  read_all (Some l) None h e p = absurd h
  read_all (Some l) (Some rest) h e p = by_rest l rest h e p

-- a text of all that the reader had, where that is no more than m
pub of_all : (text : List ℕ → List ℕ) (m : ℕ) (part : List ℕ) (a z old new : Option (List ℕ)) → Consumes old new part
    → (length part ≤ m → IsAtEnd new) → Appends a z (text part) → IfSome old (λ xs. length xs ≤ m → Appends a z (text xs))
of_all text m part a z old new h e w =
    read_all {P = λ xs. length xs ≤ m → Appends a z (text xs)} m part (λ xs i j p k. absurd (omega (arith, j, k))) old new h e (λ _. w)

pub of_all_last : {T E : Type 0} (r : Result T E) (text : List ℕ → List ℕ) (m : ℕ) (part end : List ℕ) (a z old new : Option (List ℕ))
    → Consumes old new part → (length part ≤ m → IsAtEnd new) → end ≡ text part → OnOk r (Appends a z end)
    → OnOk r (IfSome old (λ xs. length xs ≤ m → Appends a z (text xs)))
of_all_last (Ok x) text m part end a z old new h e is w = of_all text m part a z old new h e (rw is at w)
of_all_last (Err x) text m part end a z old new h e is w = search rules

-- a text of the first m + 1 bytes of what the reader had, or of all of it: a longer input has the same text
of_first : (text : List ℕ → List ℕ) (m : ℕ) (part : List ℕ) (a z old new : Option (List ℕ)) → Consumes old new part
    → (length part ≤ m → IsAtEnd new) → ((xs ys : List ℕ) → m < length xs → m < length ys → text xs ≡ text ys) → Appends a z (text part)
    → IfSome old (λ xs. Appends a z (text xs))
of_first text m part a z old new h e same w =
    read_all {P = λ xs. Appends a z (text xs)} m part (λ xs i j p. rw (same part xs i j) at p) old new h e w

-- where the last thing written is what decides
pub of_last : {T E : Type 0} (r : Result T E) (text : List ℕ → List ℕ) (m : ℕ) (part end : List ℕ) (a z old new : Option (List ℕ))
    → Consumes old new part → (length part ≤ m → IsAtEnd new) → ((xs ys : List ℕ) → m < length xs → m < length ys → text xs ≡ text ys)
    → end ≡ text part → OnOk r (Appends a z end) → OnOk r (IfSome old (λ xs. Appends a z (text xs)))
of_last (Ok x) text m part end a z old new h e same is w = of_first text m part a z old new h e same (rw is at w)
of_last (Err x) text m part end a z old new h e same is w = search rules

-- where something was written before it
pub of_earlier : {T E : Type 0} (r : Result T E) (text : List ℕ → List ℕ) (m : ℕ) (part end : List ℕ) (a z old new : Option (List ℕ))
    → Consumes old new part → (length part ≤ m → IsAtEnd new) → ((xs ys : List ℕ) → m < length xs → m < length ys → text xs ≡ text ys)
    → end ≡ text part → Appends a z end → OnOk r (IfSome old (λ xs. Appends a z (text xs)))
of_earlier (Ok x) text m part end a z old new h e same is w = of_first text m part a z old new h e same (rw is at w)
of_earlier (Err x) text m part end a z old new h e same is w = search rules

-- the reader is at its end where a buffer has room left
pub ends : (n k size m : ℕ) → n ≡ k → k ≤ m → size ≡ m + 1 → n < size
ends n k size m h i j = omega arith
