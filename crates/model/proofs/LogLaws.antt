-- What a log says: accesses made one after the other leave the log that both lists in a row leave; from place 0 of a log that is long
-- enough, an accepted call's numbers stand from its start on, and what lies past them stays.
-- By induction on the list. Assumes nothing.
use mathlib.Core.Path.{◌≡◌, refl, sym, ap, ap₂, ◌∙◌}
use mathlib.Core.Bool.{Bool, true, false, cond}
use mathlib.Core.List.{List, [], ◌∷◌, ◌++◌, map, append_assoc}
use Prim.Native.Nat.{ℕ, ◌+◌, ◌^◌, ◌<◌, ◌≤◌}
use native.Mathlib.Omega.{arith}
use lib.Dec.{ltb}
use lib.ListN.{length, set, drop, length-set, length-append}
use lib.Seq.{set-append_seam}
use borrow.Author.Tests.{lt-ltb, le-ltb}
use Rattle.model.specs.declared.Log.{Log}
use Rattle.model.specs.declared.Work.{Work}
use Rattle.model.specs.Access.{Access}
use Rattle.model.specs.Log.{entry_of, log_after, log_of, entered, logged, Recorded}
use Rattle.model.specs.Tally.{tally, joined, Joinable}
use Rattle.model.proofs.TallyLaws.{counted_then, joinable}

-- A number is entered, or the log is at its end.
pub entered_here : (number : ℕ) (g : Log) → g.place < length g.entries.now
    → log_of g (set g.entries.now g.place number) (g.place + 1) ≡ entered number g
unfolding entered
entered_here number g l = rw (lt-ltb g.place (length g.entries.now) l) refl

pub entered-past : (number : ℕ) (g : Log) → length g.entries.now ≤ g.place → g ≡ entered number g
unfolding entered
entered-past number g l = rw (le-ltb g.place (length g.entries.now) l) refl

-- One access: its number is entered.
pub recorded_one : {g g' : Log} {number : ℕ} {a : Work} (x : Access) → g' ≡ entered number g → number ≡ entry_of x → a ≡ tally (x ∷ [])
    → Recorded (x ∷ []) g g' a
unfolding logged
recorded_one {g} x e n c = record { noted = e ∙ ap (λ (i : ℕ). entered i g) n; counted = c }

pub logged-append : (xs ys : List Access) (g : Log) → logged (xs ++ ys) g ≡ logged ys (logged xs g)
unfolding logged
logged-append [] ys g = refl
logged-append (x ∷ xs) ys g = logged-append xs ys (entered (entry_of x) g)

-- The log is as long as before, and in the same lent slice.
entered_same : (number : ℕ) (g : Log)
    → (length (entered number g).entries.now ≡ length g.entries.now) × ((entered number g).entries.ghost_name ≡ g.entries.ghost_name)
unfolding entered
entered_same number g = go (ltb g.place (length g.entries.now))
  where
    go : (b : Bool) → let h : Log = cond b (log_of g (set g.entries.now g.place number) (g.place + 1)) g in
        (length h.entries.now ≡ length g.entries.now) × (h.entries.ghost_name ≡ g.entries.ghost_name)
    go true = (length-set g.entries.now g.place number, refl)
    go false = (refl, refl)

logged_same : (xs : List Access) (g : Log)
    → (length (logged xs g).entries.now ≡ length g.entries.now) × ((logged xs g).entries.ghost_name ≡ g.entries.ghost_name)
unfolding logged
logged_same [] g = (refl, refl)
logged_same (x ∷ xs) g =
    let one = entered_same (entry_of x) g in
    let all = logged_same xs (entered (entry_of x) g) in
    (all.0 ∙ one.0, all.1 ∙ one.1)

pub recorded_none : {g : Log} {a : Work} → a ≡ tally [] → Recorded [] g g a
unfolding logged
recorded_none e = record { noted = refl; counted = e }

pub recorded_then : {xs ys : List Access} {g g' g'' : Log} {a b c : Work} → Recorded xs g g' a → Recorded ys g' g'' b → c ≡ joined a b
    → Recorded (xs ++ ys) g g'' c
recorded_then {xs} {ys} {g} p q r = record {
  noted = q.noted ∙ ap (logged ys) p.noted ∙ sym (logged-append xs ys g);
  counted = counted_then xs ys p.counted q.counted r;
}

pub recorded_room : {xs : List Access} {g g' : Log} {a : Work} → Recorded xs g g' a → length g'.entries.now ≡ length g.entries.now
recorded_room {xs} {g} p = ap (λ (h : Log). length h.entries.now) p.noted ∙ (logged_same xs g).0

pub recorded_name : {xs : List Access} {g g' : Log} {a : Work} → Recorded xs g g' a → g'.entries.ghost_name ≡ g.entries.ghost_name
recorded_name {xs} {g} p = ap (λ (h : Log). h.entries.ghost_name) p.noted ∙ (logged_same xs g).1

pub recorded_joinable : {xs ys : List Access} {g g' h h' : Log} {a b : Work} → Recorded xs g g' a → Recorded ys h h' b
    → length xs + length ys < 2 ^ 64 → Joinable a b
recorded_joinable {xs} {ys} p q l = joinable xs ys p.counted q.counted l

-- From the place past `front` on, the numbers of the list take the places of what stood there, and the place advances past them.
logged_from : (g : Log) (xs : List Access) (front rest : List ℕ) → length xs ≤ length rest
    → logged xs (log_of g (front ++ rest) (length front))
    ≡ log_of g (front ++ (map entry_of xs ++ drop (length xs) rest)) (length front + length xs)
unfolding logged
logged_from g [] front rest l = ap (log_of g (front ++ rest)) (omega arith)
logged_from g (x ∷ xs) front [] l = absurd (omega arith)
logged_from g (x ∷ xs) front (y ∷ rest) l =
    let v = entry_of x in
    let here : length front < length (front ++ (y ∷ rest)) = omega (arith, length-append front (y ∷ rest)) in
    let next : length front + 1 ≡ length (front ++ (v ∷ [])) = sym (length-append front (v ∷ [])) in
    ap (logged xs)
    (sym (entered_here v (log_of g (front ++ (y ∷ rest)) (length front)) here)
    ∙ ap₂ (log_of g) (set-append_seam front y rest v ∙ sym (append_assoc front (v ∷ []) rest)) next)
    ∙ logged_from g xs (front ++ (v ∷ [])) rest (omega arith)
    ∙ ap₂ (log_of g) (append_assoc front (v ∷ []) (map entry_of xs ++ drop (length xs) rest)) (omega arith)

-- An accepted call's log, from its start on, and its place: the number of accesses that were made.
started : (xs : List Access) (g : Log) → g.place ≡ 0 → length xs ≤ length g.entries.now
    → logged xs g ≡ log_of g (map entry_of xs ++ drop (length xs) g.entries.now) (0 + length xs)
started xs g e l = ap (λ (p : ℕ). logged xs (log_of g g.entries.now p)) e ∙ logged_from g xs [] g.entries.now l

pub log_written : {xs : List Access} {g g' : Log} {a : Work} → Recorded xs g g' a → g.place ≡ 0 → length xs ≤ length g.entries.now
    → g'.entries.now ≡ log_after xs g.entries.now
unfolding log_after
log_written {xs} {g} p e l = ap (λ (h : Log). h.entries.now) (p.noted ∙ started xs g e l)

pub log_place : {xs : List Access} {g g' : Log} {a : Work} → Recorded xs g g' a → g.place ≡ 0 → length xs ≤ length g.entries.now
    → g'.place ≡ length xs
log_place {xs} {g} p e l = ap (λ (h : Log). h.place) (p.noted ∙ started xs g e l) ∙ omega arith
