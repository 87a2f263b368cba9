-- The head of record 0, its lock, and the first word of place 0.
use Rattle.word_layout.specs.Size.{Size}
use Rattle.word_layout.specs.Name.{head_of_record, lock_of_record, first_of_place}
use Rattle.word_layout.specs.declared.first.FirstWords.{FirstWords}

abbrev pub first_words : Size → FirstWords
first_words z = record {
  heads = head_of_record z 0;
  locks = lock_of_record z 0;
  places = first_of_place z 0;
}
