-- The laws of the refusal table, for any lines: a call is accepted exactly when no line holds, the first line that holds wins, and lines
-- may be appended. Then what the tables say of a call that they accept: its ranges lie inside the memory, and those of a copy do not
-- overlap. By induction on the lines. Assumes nothing.
use mathlib.Core.Path.{◌≡◌, refl, sym, ap, ◌∙◌}
use mathlib.Core.Bool.{Bool, true, false, cond, ◌||◌}
use mathlib.Core.List.{List, [], ◌∷◌, ◌++◌}
use Prim.Native.Nat.{ℕ, ◌+◌, ◌*◌, ◌-◌, ◌≤◌}
use native.Mathlib.Omega.{arith}
use lib.ListN.{length}
use borrow.Author.Tests.{ltb-false, leb-false}
use Rattle.model.specs.Fit.{Range}
use Rattle.model.specs.Memory.{most_words}
use Rattle.model.specs.Refusals.{Line, checked, some_holds, Ruling, none, given, ruled, too_large, overlap, short_log, ranges_table, copy_table, fill_table, log_table, start_table}
use Rattle.model.specs.Access.{Access}

-- No test both passes and fails.
pub not_both : (b : Bool) → b ≡ true → b ≡ false → ⊥
not_both b p q = let clash : ◌≡◌ {A = ℕ} 0 1 = cc in omega arith

-- ---- any table

-- Lines may be appended: they are checked after the others.
pub checked-append : {A : Type 0} (ks ls : List Line) (refused : ℕ → A) (accepted : A)
    → checked (ks ++ ls) refused accepted ≡ checked ks refused (checked ls refused accepted)
unfolding checked
checked-append [] ls refused accepted = refl
checked-append (k ∷ ks) ls refused accepted = rw (checked-append ks ls refused accepted) refl

-- What is asked of the answer can be asked of each case.
pub checked-map : {A B : Type 0} (f : A → B) (ls : List Line) (refused : ℕ → A) (accepted : A)
    → f (checked ls refused accepted) ≡ checked ls (λ r. f (refused r)) (f accepted)
unfolding checked
checked-map f [] refused accepted = refl
checked-map {A} {B} f (l ∷ ls) refused accepted = go l.holds (checked-map f ls refused accepted)
  where
    go : (b : Bool) → f (checked ls refused accepted) ≡ checked ls (λ r. f (refused r)) (f accepted)
        → f (cond b (refused l.number) (checked ls refused accepted))
        ≡ cond b (f (refused l.number)) (checked ls (λ r. f (refused r)) (f accepted))
    go true e = refl
    go false e = e

-- The first line that holds wins: none before it does, and nothing after it counts.
pub first_line : {A : Type 0} (ks : List Line) (l : Line) (ls : List Line) (refused : ℕ → A) (accepted : A)
    → some_holds ks ≡ false → l.holds ≡ true → checked (ks ++ (l ∷ ls)) refused accepted ≡ refused l.number
unfolding checked some_holds
first_line [] l ls refused accepted p q = rw q refl
first_line (k ∷ ks) l ls refused accepted p q = go k.holds p (λ e. first_line ks l ls refused accepted e q)
  where
    go : (b : Bool) → b || some_holds ks ≡ false
        → (some_holds ks ≡ false → checked (ks ++ (l ∷ ls)) refused accepted ≡ refused l.number)
        → cond b (refused k.number) (checked (ks ++ (l ∷ ls)) refused accepted) ≡ refused l.number
    go true e later = absurd (not_both true refl e)
    go false e later = later e

-- What the checks find decides what is made of the table.
decided : {A : Type 0} → (ℕ → A) → A → Ruling → A
decided refused accepted none = accepted
decided refused accepted (given r) = refused r

checked-ruled : {A : Type 0} (ls : List Line) (refused : ℕ → A) (accepted : A)
    → checked ls refused accepted ≡ decided refused accepted (ruled ls)
unfolding checked decided
checked-ruled [] refused accepted = refl
checked-ruled (l ∷ ls) refused accepted = go l.holds (checked-ruled ls refused accepted)
  where
    go : (b : Bool) → checked ls refused accepted ≡ decided refused accepted (ruled ls)
        → cond b (refused l.number) (checked ls refused accepted)
        ≡ decided refused accepted (cond b (given l.number) (ruled ls))
    go true e = refl
    go false e = e

pub checked_none : {A : Type 0} (ls : List Line) (refused : ℕ → A) (accepted : A) → ruled ls ≡ none
    → checked ls refused accepted ≡ accepted
unfolding decided
checked_none ls refused accepted e = checked-ruled ls refused accepted ∙ ap (decided refused accepted) e

pub checked-given : {A : Type 0} {r : ℕ} (ls : List Line) (refused : ℕ → A) (accepted : A) → ruled ls ≡ given r
    → checked ls refused accepted ≡ refused r
unfolding decided
checked-given ls refused accepted e = checked-ruled ls refused accepted ∙ ap (decided refused accepted) e

-- Nothing is given: the first line does not hold, and the others give nothing.
found : Ruling → Bool
found none = false
found (given r) = true

passed : (b : Bool) (i : ℕ) (r : Ruling) → cond b (given i) r ≡ none → (b ≡ false) × (r ≡ none)
unfolding found
passed false i r e = (refl, e)
passed true i r e = absurd (not_both true refl (ap found e))

line_none : (l : Line) (ls : List Line) → ruled (l ∷ ls) ≡ none → (l.holds ≡ false) × (ruled ls ≡ none)
unfolding checked
line_none l ls e = passed l.holds l.number (ruled ls) e

both_none : (ks ls : List Line) → ruled (ks ++ ls) ≡ none → (ruled ks ≡ none) × (ruled ls ≡ none)
unfolding checked
both_none [] ls e = (refl, e)
both_none (k ∷ ks) ls e =
    let h = line_none k (ks ++ ls) e in
    let r = both_none ks ls h.1 in
    (rw h.0 r.0, r.1)

-- A call is accepted exactly when no line of its table holds.
pub none_holds : (ls : List Line) → ruled ls ≡ none → some_holds ls ≡ false
unfolding some_holds
none_holds [] e = refl
none_holds (l ∷ ls) e = let h = line_none l ls e in rw h.0 (none_holds ls h.1)

pub holds_none : (ls : List Line) → some_holds ls ≡ false → ruled ls ≡ none
unfolding checked some_holds
holds_none [] e = refl
holds_none (l ∷ ls) e = go l.holds e (holds_none ls)
  where
    go : (b : Bool) → b || some_holds ls ≡ false → (some_holds ls ≡ false → ruled ls ≡ none)
        → cond b (given l.number) (ruled ls) ≡ none
    go true e later = absurd (not_both true refl e)
    go false e later = later e

-- What the checks find goes by the first line: it holds, or the others decide.
pub line_given : (l : Line) (ls : List Line) → l.holds ≡ true → given l.number ≡ ruled (l ∷ ls)
unfolding checked
line_given l ls e = rw e refl

pub lines_passed : none ≡ ruled []
unfolding checked
lines_passed = refl

pub line_passed : (l : Line) (ls : List Line) → l.holds ≡ false → ruled ls ≡ ruled (l ∷ ls)
unfolding checked
line_passed l ls e = rw e refl

pub append-given : {r : ℕ} (ks ls : List Line) → ruled ks ≡ given r → given r ≡ ruled (ks ++ ls)
append-given ks ls e = sym (checked-append ks ls given none ∙ checked-given ks given (ruled ls) e)

pub append_passed : (ks ls : List Line) → ruled ks ≡ none → ruled ls ≡ ruled (ks ++ ls)
append_passed ks ls e = sym (checked-append ks ls given none ∙ checked_none ks given (ruled ls) e)

-- ---- what a table that accepts says

range : (W k a n : ℕ) → (too_large W k).holds ≡ false → a + n ≤ W * k → Range W k a n
range W k a n e l = record { few = ltb-false (most_words W) k e; inside = l }

pub ranges-accepted : (W k a b n : ℕ) → ruled (ranges_table W k a b n) ≡ none → Range W k a n × Range W k b n
unfolding ranges_table checked
ranges-accepted W k a b n e =
    let few = passed _ _ _ e in
    let one = passed _ _ _ few.1 in
    let two = passed _ _ _ one.1 in
    (range W k a n few.0 (ltb-false (W * k) (a + n) one.0), range W k b n few.0 (ltb-false (W * k) (b + n) two.0))

pub fill_accepted : (W k s n : ℕ) → ruled (fill_table W k s n) ≡ none → Range W k s n
unfolding fill_table checked
fill_accepted W k s n e =
    let few = passed _ _ _ e in
    range W k s n few.0 (ltb-false (W * k) (s + n) (passed _ _ _ few.1).0)

-- The bytes from a string's start to the end of the memory.
pub string_accepted : (W k s : ℕ) → ruled (start_table W k s) ≡ none → Range W k s (W * k - s)
unfolding start_table checked
string_accepted W k s e =
    let few = passed _ _ _ e in
    let start = leb-false (W * k) s (passed _ _ _ few.1).0 in
    range W k s (W * k - s) few.0 (omega arith)

-- A copy's table is a move's with refusal 4 after it.
pub copy_accepted : (W k dest src n : ℕ) → ruled (copy_table W k dest src n) ≡ none
    → (Range W k dest n × Range W k src n) × ((overlap dest src n).holds ≡ false)
unfolding copy_table
copy_accepted W k dest src n e =
    let h = both_none (ranges_table W k dest src n) (overlap dest src n ∷ []) e in
    (ranges-accepted W k dest src n h.0, (line_none (overlap dest src n) [] h.1).0)

-- A logged call's table is its call's with refusal 6 after it.
pub log_accepted : (lines : List Line) (xs : List Access) (room : ℕ) → ruled (log_table lines xs room) ≡ none
    → (ruled lines ≡ none) × (length xs ≤ room)
unfolding log_table
log_accepted lines xs room e =
    let h = both_none lines (short_log room (length xs) ∷ []) e in
    (h.0, ltb-false room (length xs) (line_none (short_log room (length xs)) [] h.1).0)

-- What the checks of a logged call find: what those of its call do, or then line 6.
pub log_given : {r : ℕ} (lines : List Line) (xs : List Access) (room : ℕ) → ruled lines ≡ given r → given r ≡ ruled (log_table lines xs room)
unfolding log_table
log_given lines xs room e = append-given lines (short_log room (length xs) ∷ []) e

pub log_passed : {x : Ruling} {m : ℕ} (lines : List Line) (xs : List Access) (room : ℕ) → ruled lines ≡ none
    → x ≡ ruled (short_log room m ∷ []) → m ≡ length xs → x ≡ ruled (log_table lines xs room)
unfolding log_table
log_passed lines xs room e p q = p ∙ ap (λ (m : ℕ). ruled (short_log room m ∷ [])) q ∙ append_passed lines (short_log room (length xs) ∷ []) e
