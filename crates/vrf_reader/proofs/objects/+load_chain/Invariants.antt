-- `load_chain` calls itself with less depth left.
use Rattle.vrf_reader.proofs.objects.+load_chain.Given as goal

abbrev pub decreases-load_chain : goal.decreases-load_chain
decreases-load_chain l = l.left
