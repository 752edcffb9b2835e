-- The worked numbers of documents 01 and 02, proved of the written meaning itself, by computation: one table under the single claim `worked`.
-- Assumes nothing.
use mathlib.Core.Path.{◌≡◌, refl}
use mathlib.Core.Bool.{true, false}
use mathlib.Core.List.{List, [], ◌∷◌, map}
use Prim.Native.Nat.{ℕ, ◌+◌, ◌*◌, ◌-◌, ◌^◌}
use lib.IntN.{pos, negsuc}
use lib.ListN.{length, replicate}
use Rattle.model.specs.declared.Refusal.TheVariants.{TooLarge, FirstOutside, SecondOutside, Overlap, NoZero, ShortLog}
use Rattle.model.specs.Access.{load, store}
use Rattle.model.specs.Tally.{tally, total}
use Rattle.model.specs.Lists.{upto, pairs, chunks, misaligned, whole_words, phases, run, along, copy_list, move_list, upward, stores, fill_phases, fill_list, compare_list, string_list}
use Rattle.model.specs.Memory.{view, read_le, packed, over}
use Rattle.model.specs.Meaning.{first, memcpy, memmove, memset, memcmp}
use Rattle.model.specs.Perform.{State, perform, moving, filling}
use Rattle.model.specs.Log.{log_after}
use Rattle.model.specs.Refusals.{Line, none, given, ruled, checked, ranges_table, copy_table, fill_table, log_table, start_table, string_table}
use Rattle.model.specs.Answers.{Said, an_address, a_number, a_length, a_refusal, Reply, number_of, copy_answer, move_answer, fill_answer, compare_answer, bcmp_answer, string_answer, copy_words, move_words, fill_words}

-- An outcome with its counts, as the document writes them: loads 1/2/4/8, stores 1/2/4/8.
abbrev pub reply : Said → ℕ → ℕ → ℕ → ℕ → ℕ → ℕ → ℕ → ℕ → Reply
reply out l1 l2 l4 l8 s1 s2 s4 s8 =
    record { said = out; counts = l1 ∷ l2 ∷ l4 ∷ l8 ∷ s1 ∷ s2 ∷ s4 ∷ s8 ∷ [] }

-- All counts zero.
abbrev pub nothing : Said → Reply
nothing out = reply out 0 0 0 0 0 0 0 0

-- 16 words; 16 words whose bytes 0 and 1 are 0 and 255; one word of eight ones; one whose last byte is zero.
abbrev memory : List ℕ
memory = replicate 16 0

abbrev unlike : List ℕ
unlike = 0xff00 ∷ replicate 15 0

abbrev ones : List ℕ
ones = 0x0101010101010101 ∷ []

abbrev ended : List ℕ
ended = 0x0001010101010101 ∷ []

-- The table and the log of a logged copy in 16 words.
abbrev copy_log_table : ℕ → ℕ → ℕ → ℕ → List Line
copy_log_table dest src n room = log_table (copy_table 8 16 dest src n) (copy_list 8 dest src n) room

abbrev copy_log : ℕ → ℕ → ℕ → List ℕ → List ℕ
copy_log dest src n es = checked (copy_log_table dest src n (length es)) (λ i. es) (log_after (copy_list 8 dest src n) es)

-- Each byte its own address, and nothing held.
abbrev numbered : ℕ → ℕ
numbered a = a

abbrev fresh : State
fresh = record { bytes = numbered; held = λ a. 0 }

pub record Worked : Type 0 where
  -- The document's table.
  pub P1 : copy_answer 8 16 0 32 15 ≡ reply (an_address 0) 15 0 0 0 15 0 0 0
  pub P2 : copy_answer 8 16 0 32 16 ≡ reply (an_address 0) 0 0 0 2 0 0 0 2
  pub P3 : copy_answer 8 16 0 33 16 ≡ reply (an_address 0) 2 1 1 1 0 0 0 2
  pub P3_list : copy_list 8 0 33 16
      ≡ load 1 33 ∷ load 2 34 ∷ load 4 36 ∷ load 8 40 ∷ store 8 0 ∷ load 1 48 ∷ store 8 8 ∷ []
  pub P4 : copy_answer 8 16 3 40 30 ≡ reply (an_address 3) 8 1 1 2 6 0 0 3
  pub P5 : copy_answer 8 16 1 40 30 ≡ reply (an_address 1) 16 1 1 1 14 0 0 2
  pub P5_length : length (copy_list 8 1 40 30) ≡ 35
  pub P5_bound : 4 * length (copy_list 8 1 40 30) ≡ 30 + 110
  pub P6 : move_answer 8 16 8 8 0 ≡ nothing (an_address 8)
  pub P6_forward : upward 8 8 0 ≡ true
  pub P7 : move_answer 8 16 8 8 16 ≡ reply (an_address 8) 0 0 0 2 0 0 0 2
  pub P7_backward : move_list 8 8 8 16 ≡ load 8 16 ∷ store 8 16 ∷ load 8 8 ∷ store 8 8 ∷ []
  pub P8 : move_answer 8 16 9 8 16 ≡ reply (an_address 9) 10 1 1 0 8 0 0 1
  pub P8_backward : upward 9 8 16 ≡ false
  pub P9 : move_answer 8 16 8 9 16 ≡ reply (an_address 8) 2 1 1 1 0 0 0 2
  pub P9_forward : upward 8 9 16 ≡ true
  pub P10 : fill_answer 8 16 1 16 ≡ reply (an_address 1) 0 0 0 0 8 0 0 1
  pub P11 : compare_answer 8 unlike 0 1 1 ≡ reply (a_number (negsuc 254)) 2 0 0 0 0 0 0 0
  pub P12 : string_answer 8 memory 128 ≡ nothing (a_refusal 2)
  -- A far destination goes forward: its list is that of a copy.
  pub far_forward : move_list 8 24 8 16 ≡ load 8 8 ∷ store 8 24 ∷ load 8 16 ∷ store 8 32 ∷ []
  -- Performing a list leaves what C says: P3's, P8's overlapping move, and P10's fill with 7.
  pub P3_performed : packed 8 8 (perform (moving 0 33) (copy_list 8 0 33 16) fresh).bytes ≡ packed 8 8 (memcpy 0 33 16 numbered)
  pub P8_performed : packed 8 4 (perform (moving 9 8) (move_list 8 9 8 16) fresh).bytes ≡ packed 8 4 (memmove 9 8 16 numbered)
  pub P10_performed : packed 8 4 (perform (filling 7) (fill_list 8 1 16) fresh).bytes ≡ packed 8 4 (memset 1 (pos 7) 16 numbered)
  -- Each refusal of each call, at its edge: refused, and accepted one before.
  pub copy_1 : copy_answer 8 8193 0 32 0 ≡ nothing (a_refusal 1)
  pub copy_1_not : copy_answer 8 8192 0 32 0 ≡ nothing (an_address 0)
  pub copy_2 : copy_answer 8 16 113 0 16 ≡ nothing (a_refusal 2)
  pub copy_2_not : copy_answer 8 16 112 0 16 ≡ reply (an_address 112) 0 0 0 2 0 0 0 2
  pub copy_3 : copy_answer 8 16 0 113 16 ≡ nothing (a_refusal 3)
  pub copy_3_not : copy_answer 8 16 0 112 16 ≡ reply (an_address 0) 0 0 0 2 0 0 0 2
  pub copy_4_above : copy_answer 8 16 0 15 16 ≡ nothing (a_refusal 4)
  pub copy_4_above_not : copy_answer 8 16 0 16 16 ≡ reply (an_address 0) 0 0 0 2 0 0 0 2
  pub copy_4_below : copy_answer 8 16 15 0 16 ≡ nothing (a_refusal 4)
  pub copy_4_below_not : copy_answer 8 16 16 0 16 ≡ reply (an_address 16) 0 0 0 2 0 0 0 2
  pub copy_4_one : copy_answer 8 16 0 0 1 ≡ nothing (a_refusal 4)
  pub copy_4_none : copy_answer 8 16 0 0 0 ≡ nothing (an_address 0)
  pub move_1 : move_answer 8 8193 0 32 0 ≡ nothing (a_refusal 1)
  pub move_1_not : move_answer 8 8192 0 32 0 ≡ nothing (an_address 0)
  pub move_2 : move_answer 8 16 113 0 16 ≡ nothing (a_refusal 2)
  pub move_2_not : move_answer 8 16 112 0 16 ≡ reply (an_address 112) 0 0 0 2 0 0 0 2
  pub move_3 : move_answer 8 16 0 113 16 ≡ nothing (a_refusal 3)
  pub move_3_not : move_answer 8 16 0 112 16 ≡ reply (an_address 0) 0 0 0 2 0 0 0 2
  pub fill_1 : fill_answer 8 8193 0 0 ≡ nothing (a_refusal 1)
  pub fill_1_not : fill_answer 8 8192 0 0 ≡ nothing (an_address 0)
  pub fill_2 : fill_answer 8 16 113 16 ≡ nothing (a_refusal 2)
  pub fill_2_not : fill_answer 8 16 112 16 ≡ reply (an_address 112) 0 0 0 0 0 0 0 2
  pub compare_1 : compare_answer 8 (replicate 8193 0) 0 0 0 ≡ nothing (a_refusal 1)
  pub compare_1_not : compare_answer 8 (replicate 8192 0) 0 0 0 ≡ nothing (a_number (pos 0))
  pub compare_2 : compare_answer 8 memory 127 0 2 ≡ nothing (a_refusal 2)
  pub compare_2_not : compare_answer 8 memory 126 0 2 ≡ reply (a_number (pos 0)) 4 0 0 0 0 0 0 0
  pub compare_3 : compare_answer 8 memory 0 127 2 ≡ nothing (a_refusal 3)
  pub compare_3_not : compare_answer 8 memory 0 126 2 ≡ reply (a_number (pos 0)) 4 0 0 0 0 0 0 0
  pub bcmp_1 : bcmp_answer 8 (replicate 8193 0) 0 0 0 ≡ nothing (a_refusal 1)
  pub bcmp_1_not : bcmp_answer 8 (replicate 8192 0) 0 0 0 ≡ nothing (a_number (pos 0))
  pub bcmp_2 : bcmp_answer 8 memory 127 0 2 ≡ nothing (a_refusal 2)
  pub bcmp_2_not : bcmp_answer 8 memory 126 0 2 ≡ reply (a_number (pos 0)) 4 0 0 0 0 0 0 0
  pub bcmp_3 : bcmp_answer 8 memory 0 127 2 ≡ nothing (a_refusal 3)
  pub bcmp_3_not : bcmp_answer 8 memory 0 126 2 ≡ reply (a_number (pos 0)) 4 0 0 0 0 0 0 0
  pub string_1 : string_answer 8 (replicate 8193 0) 0 ≡ nothing (a_refusal 1)
  pub string_1_not : string_answer 8 (replicate 8192 0) 0 ≡ reply (a_length 0) 1 0 0 0 0 0 0 0
  pub string_2_not : string_answer 8 memory 127 ≡ reply (a_length 0) 1 0 0 0 0 0 0 0
  pub string_5 : string_answer 8 ones 3 ≡ reply (a_refusal 5) 5 0 0 0 0 0 0 0
  pub string_5_not : string_answer 8 ended 3 ≡ reply (a_length 4) 5 0 0 0 0 0 0 0
  -- The document's number of each refusal of the code.
  pub refusal_numbers : map number_of (TooLarge ∷ FirstOutside ∷ SecondOutside ∷ Overlap ∷ NoZero ∷ ShortLog ∷ [])
      ≡ 1 ∷ 2 ∷ 3 ∷ 4 ∷ 5 ∷ 6 ∷ []
  -- The first line that holds is given; sums are exact; length 0 is accepted at M and not past it, also where M is 0.
  pub one_before_two : copy_answer 8 8193 (2 ^ 64 - 1) 0 1 ≡ nothing (a_refusal 1)
  pub two_before_three : copy_answer 8 16 128 128 1 ≡ nothing (a_refusal 2)
  pub three_before_four : copy_answer 8 16 120 121 8 ≡ nothing (a_refusal 3)
  pub exact_sum : copy_answer 8 16 (2 ^ 64 - 8) 0 16 ≡ nothing (a_refusal 2)
  pub last_address : fill_answer 8 16 (2 ^ 64 - 1) 1 ≡ nothing (a_refusal 2)
  pub empty_at_end : copy_answer 8 16 128 128 0 ≡ nothing (an_address 128)
  pub empty_past_end : copy_answer 8 16 129 0 0 ≡ nothing (a_refusal 2)
  pub empty_source_past_end : copy_answer 8 16 0 129 0 ≡ nothing (a_refusal 3)
  pub no_words : move_answer 8 0 0 0 0 ≡ nothing (an_address 0)
  pub no_words_string : string_answer 8 [] 0 ≡ nothing (a_refusal 2)
  -- The words left: a copy, a move onto itself by one byte, fills with -1 and 256, and a refused call.
  pub copied : copy_words 8 (0x0807060504030201 ∷ 0 ∷ []) 9 1 3 ≡ 0x0807060504030201 ∷ 0x04030200 ∷ []
  pub moved : move_words 8 (0x0807060504030201 ∷ 0 ∷ []) 1 0 8 ≡ 0x0706050403020101 ∷ 0x08 ∷ []
  pub filled : fill_words 8 (0 ∷ 0 ∷ []) 7 (negsuc 0) 2 ≡ 0xff00000000000000 ∷ 0xff ∷ []
  pub filled_256 : fill_words 8 (0xffff ∷ []) 0 (pos 256) 1 ≡ 0xff00 ∷ []
  pub refused_copy : copy_words 8 ones 0 0 1 ≡ ones
  pub refused_move : move_words 8 ones 1 0 8 ≡ ones
  pub refused_fill : fill_words 8 ones 1 (pos 0) 8 ≡ ones
  -- The order, list by list: P8 goes backward; P10's fill; two pairs of a compare; a string whose zero is its second byte.
  pub P8_list : move_list 8 9 8 16
      ≡ load 1 23 ∷ store 1 24 ∷ load 4 16 ∷ load 2 20 ∷ load 1 22 ∷ load 1 15 ∷ store 8 16 ∷ load 1 14 ∷ store 1 15 ∷ load 1 13 ∷ store 1 14
      ∷ load 1 12 ∷ store 1 13 ∷ load 1 11 ∷ store 1 12 ∷ load 1 10 ∷ store 1 11 ∷ load 1 9 ∷ store 1 10 ∷ load 1 8 ∷ store 1 9 ∷ []
  pub P10_list : fill_list 8 1 16
      ≡ store 1 1 ∷ store 1 2 ∷ store 1 3 ∷ store 1 4 ∷ store 1 5 ∷ store 1 6 ∷ store 1 7 ∷ store 8 8 ∷ store 1 16 ∷ []
  pub compare_list_lem : compare_list 0 16 2 2 ≡ load 1 0 ∷ load 1 16 ∷ load 1 1 ∷ load 1 17 ∷ []
  pub string_list_lem : string_list 3 5 1 ≡ load 1 3 ∷ load 1 4 ∷ []
  pub bcmp-unequal : bcmp_answer 8 unlike 0 1 1 ≡ reply (a_number (negsuc 254)) 2 0 0 0 0 0 0 0
  -- Document 02's log of P3, in a log of nine sevens: the places past the list stay. Refusal 6 at its edge, last of all; and a refusal
  -- leaves the log. An empty list needs no place.
  pub P3_log : copy_log 0 33 16 (replicate 9 7) ≡ 33 ∷ 65570 ∷ 131108 ∷ 196648 ∷ 458752 ∷ 48 ∷ 458760 ∷ 7 ∷ 7 ∷ []
  pub copy_6_not : ruled (copy_log_table 0 33 16 7) ≡ none
  pub copy_6 : ruled (copy_log_table 0 33 16 6) ≡ given 6
  pub copy_6_left : copy_log 0 33 16 (replicate 6 7) ≡ replicate 6 7
  pub two_before_six : ruled (copy_log_table 113 0 16 0) ≡ given 2
  pub four_before_six : ruled (copy_log_table 0 15 16 0) ≡ given 4
  pub move_6_not : ruled (log_table (ranges_table 8 16 9 8 16) (move_list 8 9 8 16) 21) ≡ none
  pub move_6 : ruled (log_table (ranges_table 8 16 9 8 16) (move_list 8 9 8 16) 20) ≡ given 6
  pub fill_6_not : ruled (log_table (fill_table 8 16 1 16) (fill_list 8 1 16) 9) ≡ none
  pub fill_6 : ruled (log_table (fill_table 8 16 1 16) (fill_list 8 1 16) 8) ≡ given 6
  pub empty_log : ruled (copy_log_table 0 0 0 0) ≡ none

pub worked : Worked
unfolding perform upto pairs chunks misaligned whole_words phases run along stores fill_phases fill_list compare_list string_list total tally view read_le packed over first memcpy memmove memset memcmp checked ranges_table copy_table fill_table log_table log_after start_table string_table copy_answer move_answer fill_answer compare_answer bcmp_answer string_answer copy_words move_words fill_words
worked =
    record {
      P1 = refl;
      P2 = refl;
      P3 = refl;
      P3_list = refl;
      P4 = refl;
      P5 = refl;
      P5_length = refl;
      P5_bound = refl;
      P6 = refl;
      P6_forward = refl;
      P7 = refl;
      P7_backward = refl;
      P8 = refl;
      P8_backward = refl;
      P9 = refl;
      P9_forward = refl;
      P10 = refl;
      P11 = refl;
      P12 = refl;
      far_forward = refl;
      P3_performed = refl;
      P8_performed = refl;
      P10_performed = refl;
      copy_1 = refl;
      copy_1_not = refl;
      copy_2 = refl;
      copy_2_not = refl;
      copy_3 = refl;
      copy_3_not = refl;
      copy_4_above = refl;
      copy_4_above_not = refl;
      copy_4_below = refl;
      copy_4_below_not = refl;
      copy_4_one = refl;
      copy_4_none = refl;
      move_1 = refl;
      move_1_not = refl;
      move_2 = refl;
      move_2_not = refl;
      move_3 = refl;
      move_3_not = refl;
      fill_1 = refl;
      fill_1_not = refl;
      fill_2 = refl;
      fill_2_not = refl;
      compare_1 = refl;
      compare_1_not = refl;
      compare_2 = refl;
      compare_2_not = refl;
      compare_3 = refl;
      compare_3_not = refl;
      bcmp_1 = refl;
      bcmp_1_not = refl;
      bcmp_2 = refl;
      bcmp_2_not = refl;
      bcmp_3 = refl;
      bcmp_3_not = refl;
      string_1 = refl;
      string_1_not = refl;
      string_2_not = refl;
      string_5 = refl;
      string_5_not = refl;
      refusal_numbers = refl;
      one_before_two = refl;
      two_before_three = refl;
      three_before_four = refl;
      exact_sum = refl;
      last_address = refl;
      empty_at_end = refl;
      empty_past_end = refl;
      empty_source_past_end = refl;
      no_words = refl;
      no_words_string = refl;
      copied = refl;
      moved = refl;
      filled = refl;
      filled_256 = refl;
      refused_copy = refl;
      refused_move = refl;
      refused_fill = refl;
      P8_list = refl;
      P10_list = refl;
      compare_list_lem = refl;
      string_list_lem = refl;
      bcmp-unequal = refl;
      P3_log = refl;
      copy_6_not = refl;
      copy_6 = refl;
      copy_6_left = refl;
      two_before_six = refl;
      four_before_six = refl;
      move_6_not = refl;
      move_6 = refl;
      fill_6_not = refl;
      fill_6 = refl;
      empty_log = refl;
    }
