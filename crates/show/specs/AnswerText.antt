-- An answer as a line of text: `address A loads a/b/c/d stores e/f/g/h`, and so `number Z`, `length L`, `refusal R`.
-- Assumes nothing.
use Rattle.std.specs.Prelude.{List, ◌++◌, ℕ, ◌+◌, get_or}
use Rattle.model.specs.Answers.{Said, an_address, a_number, a_length, a_refusal, Reply}
use Rattle.texts.specs.Codes.{codes}
use Rattle.show.specs.Numbers.{decimal, signed}

unfoldable pub said_text : Said → List ℕ
said_text (an_address a) = codes "address " ++ decimal a
said_text (a_number z) = codes "number " ++ signed z
said_text (a_length n) = codes "length " ++ decimal n
said_text (a_refusal r) = codes "refusal " ++ decimal r

-- The four counts from place `first` on, as `a/b/c/d`.
abbrev pub slashed : ℕ → List ℕ
slashed n = codes "/" ++ decimal n

unfoldable pub four_counts : List ℕ → ℕ → List ℕ
four_counts ns first =
    decimal (get_or ns first 0) ++ (slashed (get_or ns (first + 1) 0) ++ (slashed (get_or ns (first + 2) 0) ++ slashed (get_or ns (first + 3) 0)))

abbrev pub loads_text : List ℕ → List ℕ
loads_text ns = codes " loads " ++ four_counts ns 0

abbrev pub stores_text : List ℕ → List ℕ
stores_text ns = codes " stores " ++ four_counts ns 4

-- What an answer says, which every line of an answer begins with: words that are added to it stand here.
unfoldable pub reply_text : Reply → List ℕ
reply_text r = said_text r.said ++ (loads_text r.counts ++ stores_text r.counts)

-- The line, with the newline that ends it.
unfoldable pub answer_text : Reply → List ℕ
answer_text r = reply_text r ++ codes "\n"
