mod AtRest
