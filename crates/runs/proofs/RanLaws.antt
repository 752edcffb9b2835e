-- What routines did one after the other: nothing; one list and then another; one more turn of a loop; a load and the store of what
-- it gave; the store of a fill. A routine's proof is these laws and arithmetic. They are stated of `Carried`, and so hold of `Ran`.
-- Assumes nothing.
use mathlib.Core.Path.{◌≡◌, refl, sym, ap, subst, ◌∙◌, fun_ext}
use mathlib.Core.List.{List, [], ◌∷◌, ◌++◌}
use Prim.Native.Nat.{ℕ, ◌+◌, ◌-◌, ◌^◌, ◌<◌, ◌≤◌}
use native.Mathlib.Numerals.{add-one}
use native.Mathlib.Omega.{arith}
use lib.ListN.{length}
use Rattle.model.specs.declared.Work.{Work}
use Rattle.model.specs.Access.{Access, load, store}
use Rattle.model.specs.Memory.{byte, view, read_le, over, laid}
use Rattle.model.specs.Lists.{upto}
use Rattle.model.specs.Perform.{State, perform, moving, filling}
use Rattle.model.specs.declared.Log.{Log}
use Rattle.model.specs.Tally.{tally, joined, Joinable}
use Rattle.runs.specs.Ran.{Lent, lent, Carried, Ran, Stored, Found}
use Rattle.model.proofs.ByteLaws.{read_le-byte}
use Rattle.model.proofs.MemoryLaws.{over_in, over_cong, view_lt}
use Rattle.model.proofs.PerformLaws.{perform-append}
use Rattle.model.proofs.LogLaws.{recorded_none, recorded_then, recorded_joinable}

pub ran_none : {W : ℕ} {give : (ℕ → ℕ) → ℕ → ℕ} {pre : (ℕ → ℕ) → Type 0} {z : Lent} {a : Work} → a ≡ tally []
    → Carried W give pre [] pre z z a
unfolding perform
ran_none p = record { size = refl; performed = λ held h. refl; holding = λ held h. h; recorded = recorded_none p }

-- More may be asked of what is held, and less said of it.
pub ran_weaker : {W : ℕ} {give : (ℕ → ℕ) → ℕ → ℕ} {pre pre' post post' : (ℕ → ℕ) → Type 0} {xs : List Access} {z z' : Lent} {a : Work}
    → ((held : ℕ → ℕ) → pre' held → pre held) → ((held : ℕ → ℕ) → post held → post' held)
    → Carried W give pre xs post z z' a → Carried W give pre' xs post' z z' a
ran_weaker f g p = record {
  size = p.size;
  performed = λ held h. p.performed held (f held h);
  holding = λ held h. g _ (p.holding held (f held h));
  recorded = p.recorded;
}

-- dest and src may have advanced together.
pub ran_together : {W : ℕ} {pre post : (ℕ → ℕ) → Type 0} {xs : List Access} {z z' : Lent} {a : Work} (d s dest src : ℕ)
    → d + src ≡ s + dest → Carried W (moving d s) pre xs post z z' a → Carried W (moving dest src) pre xs post z z' a
ran_together {W} {pre} {post} {xs} {z} {z'} {a} d s dest src e p =
    subst (λ (give : (ℕ → ℕ) → ℕ → ℕ). Carried W give pre xs post z z' a) same p
  where
    same : moving d s ≡ moving dest src
    same = fun_ext (λ held. fun_ext (λ x. ap held (omega arith)))

module _ {W : ℕ} {give : (ℕ → ℕ) → ℕ → ℕ} {pre mid post : (ℕ → ℕ) → Type 0} {z z' z'' : Lent} {a b : Work} where
  pub ran_then : {c : Work} {xs ys : List Access} → Carried W give pre xs mid z z' a → Carried W give mid ys post z' z'' b
      → c ≡ joined a b → Carried W give pre (xs ++ ys) post z z'' c
  ran_then {xs} {ys} p q r = record {
    size = q.size ∙ p.size;
    performed = λ held h. ap (λ (x : State). x.bytes) (both held h) ∙ q.performed (after held) (p.holding held h);
    holding = λ held h. subst (λ (x : State). post x.held) (sym (both held h)) (q.holding (after held) (p.holding held h));
    recorded = recorded_then p.recorded q.recorded r;
  }
    where
      from : Lent → (ℕ → ℕ) → State
      from y held = record { bytes = view W y.words; held = held }

      after : (ℕ → ℕ) → ℕ → ℕ
      after held = (perform give xs (from z held)).held

      both : (held : ℕ → ℕ) → pre held → perform give (xs ++ ys) (from z held) ≡ perform give ys (from z' (after held))
      both held h =
          perform-append give xs ys (from z held)
          ∙ ap (λ (f : ℕ → ℕ). perform give ys (record { bytes = f; held = after held })) (p.performed held h)

  -- One more turn of a loop.
  pub ran_turn : {c : Work} (i : ℕ) (f : ℕ → List Access) {j : ℕ} → j ≡ i + 1 → Carried W give pre (upto i f) mid z z' a
      → Carried W give mid (f i) post z' z'' b → c ≡ joined a b → Carried W give pre (upto j f) post z z'' c
  unfolding upto
  ran_turn i f e p q r = rw (e, add-one i) (ran_then p q r)

  pub ran_joinable : {xs ys : List Access} → Carried W give pre xs mid z z' a → Carried W give mid ys post z' z'' b
      → length xs + length ys < 2 ^ 64 → Joinable a b
  ran_joinable p q l = recorded_joinable p.recorded q.recorded l

module _ {W w d v : ℕ} {z z' : Lent} {a : Work} where
  pub ran_pair : {s : ℕ} {g : Log} {b c : Work} → Found (read_le (view W z.words) s w) (load w s ∷ []) g z.log v a
      → Stored W w d v z z' b → c ≡ joined a b → Ran W (moving d s) (load w s ∷ store w d ∷ []) (lent z.words g) z' c
  unfolding perform
  ran_pair {s} p q r = record {
    size = q.size;
    performed = λ held h. over_cong d w (λ x. over s w (view W z.words) held ((x + s) - d)) (laid v d) (view W z.words) (same held) ∙ sym q.bytes;
    holding = λ held h. tt;
    recorded = recorded_then p.recorded q.recorded r;
  }
    where
      same : (held : ℕ → ℕ) (x : ℕ) → d ≤ x → x < d + w → over s w (view W z.words) held ((x + s) - d) ≡ laid v d x
      same held x l m =
          let at : (x + s) - d ≡ s + (x - d) = omega arith in
          ap (over s w (view W z.words) held) at
          ∙ over_in s w (view W z.words) held (s + (x - d)) (omega arith) (omega arith)
          ∙ sym (read_le-byte (view W z.words) (view_lt W z.words) s w (x - d) (omega arith))
          ∙ ap (λ (y : ℕ). byte y (x - d)) (sym p.found)

  -- A store of the lowest w bytes of a number of n bytes, each of which is the fill byte.
  pub ran_fill : (b₀ n : ℕ) → b₀ < 256 → w ≤ n → v ≡ read_le (λ x. b₀) 0 n → Stored W w d v z z' a
      → Ran W (filling b₀) (store w d ∷ []) z z' a
  unfolding perform
  ran_fill b₀ n l k e q = record {
    size = q.size;
    performed = λ held h. over_cong d w (λ x. b₀) (laid v d) (view W z.words) same ∙ sym q.bytes;
    holding = λ held h. tt;
    recorded = q.recorded;
  }
    where
      same : (x : ℕ) → d ≤ x → x < d + w → b₀ ≡ laid v d x
      same x i m = sym (ap (λ (y : ℕ). byte y (x - d)) e ∙ read_le-byte (λ y. b₀) (λ y. l) 0 n (x - d) (omega arith))
