-- The recursion follows the definition: a tenth of a number of two digits or more is smaller. Assumes nothing.
use Rattle.journal.proofs.text.+put_number.Given as goal

abbrev pub decreases-put_number : goal.decreases-put_number
decreases-put_number l = l.n
