mod OneCpu
